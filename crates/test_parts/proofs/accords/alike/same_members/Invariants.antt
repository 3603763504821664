use Rattle.std.proofs.Common.{ℕ, ◌<◌}
use Rattle.test_parts.specs.Accords.{IsSameMember}
use Rattle.test_parts.proofs.accords.alike.same_members.Given as goal

-- those before have the same key and the same stake in both
abbrev pub invariant-loop-member : goal.invariant-loop-member
invariant-loop-member l = (k : ℕ) → k < l.member → IsSameMember l.one l.other k
