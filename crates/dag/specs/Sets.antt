-- The empty set of members.
use Rattle.committee.specs.declared.sets.MemberSet.{MemberSet}

-- the set of members that has no member
abbrev pub nobody : MemberSet
nobody = record { bits = 0 }
