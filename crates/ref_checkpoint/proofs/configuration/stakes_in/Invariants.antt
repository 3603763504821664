use Rattle.std.proofs.Common.{◌≡◌, take}
use Rattle.ref_checkpoint.proofs.configuration.stakes_in.Given as goal

-- those of the members so far have been found
abbrev pub invariant-loop-member : goal.invariant-loop-member
invariant-loop-member l = l.stakes.items ≡ take l.member l.committee.stakes
