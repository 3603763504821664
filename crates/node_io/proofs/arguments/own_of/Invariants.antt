use Rattle.std.proofs.Common.{◌≡◌, ◌≢◌, All, [], length}
use Rattle.node_io.specs.Numbers.{IsDigit, number_of}
use Rattle.node_io.proofs.arguments.own_of.Given as goal

-- what is left decides as the whole text does
abbrev pub invariant-loop-digit : goal.invariant-loop-digit
invariant-loop-digit l = record {
  some : l.fn.text ≢ [];
  value : number_of l.number l.rest ≡ number_of 0 l.fn.text;
  ahead : All IsDigit l.rest → All IsDigit l.fn.text;
  back : All IsDigit l.fn.text → All IsDigit l.rest;
}

abbrev pub decreases-loop-digit : goal.decreases-loop-digit
decreases-loop-digit l = length l.rest
