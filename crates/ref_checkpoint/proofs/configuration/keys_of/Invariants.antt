use Rattle.std.proofs.Common.{◌≡◌, take}
use Rattle.ref_checkpoint.proofs.configuration.keys_of.Given as goal

-- those of the members so far have been found
abbrev pub invariant-loop-member : goal.invariant-loop-member
invariant-loop-member l = l.keys.items ≡ take l.member l.committee.keys
