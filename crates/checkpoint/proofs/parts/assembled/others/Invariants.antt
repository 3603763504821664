use Rattle.std.proofs.Common.{◌≡◌, take}
use Rattle.std.specs.Prelude.{filter}
use Rattle.certify.specs.Assembled.{votes_in}
use Rattle.checkpoint.specs.Parts.{is_other}
use Rattle.checkpoint.proofs.parts.assembled.others.Given as goal

-- of the votes before the place those of others are found
abbrev pub invariant-loop-place : goal.invariant-loop-place
invariant-loop-place l = l.votes.items ≡ filter (is_other l.own.0) (take l.place (votes_in l.assembly.places))
