-- Sets of members.
use Rattle.std.specs.Prelude.{ℕ, ◌==◌, Bool}
use Rattle.std.specs.Int.{bit_at}
use Rattle.committee.specs.declared.sets.MemberSet.{MemberSet}

-- the set has this member: the member's bit is 1
abbrev pub has : MemberSet → ℕ → Bool
has set member = bit_at set.bits member == 1
