use Rattle.std.proofs.Common.{◌≡◌, ◌+◌, drop}
use Rattle.std.specs.Prelude.{not}
use Rattle.std.specs.List.{position_from}
use Rattle.ref_checkpoint.proofs.judging.first_failing.Given as goal

-- what is found among the tests that are left, from this place on, is what is found
abbrev pub invariant-loop-sound : goal.invariant-loop-sound
invariant-loop-sound l = record {
  at : l.place ≡ l.sound-index + 1;
  left : position_from not l.place (drop l.sound-index l.tests) ≡ position_from not 1 l.tests;
}
