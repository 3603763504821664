use Rattle.std.proofs.Common.{◌≡◌, ◌≤◌, length}
use Rattle.checkpoint.specs.Kept.{members_below}
use Rattle.checkpoint.proofs.records.batch.count_of.Given as goal

-- the members below the number have been counted
abbrev pub invariant-loop-member : goal.invariant-loop-member
invariant-loop-member l = record {
  counted : l.count ≡ length (members_below l.members l.member);
  few : l.count ≤ l.member;
}
