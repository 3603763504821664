use Rattle.std.proofs.Common.{◌≡◌, ◌++◌}
use Rattle.std.specs.List.{flat_map}
use Rattle.std.specs.Int.{w16, to_be_bytes}
use Rattle.checkpoint.specs.Kept.{members_below}
use Rattle.checkpoint.proofs.records.batch.put_members.Given as goal

-- the members below the number have been put
abbrev pub invariant-loop-member : goal.invariant-loop-member
invariant-loop-member l = l.bytes.items ≡ l.initial.bytes.items ++ flat_map (to_be_bytes w16) (members_below l.members l.member)
