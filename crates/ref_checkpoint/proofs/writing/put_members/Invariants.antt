use Rattle.std.proofs.Common.{◌≡◌, ◌++◌, take}
use Rattle.std.specs.List.{flat_map}
use Rattle.std.specs.Int.{w16, to_be_bytes}
use Rattle.ref_checkpoint.proofs.writing.put_members.Given as goal

-- those so far have been put
abbrev pub invariant-loop-member : goal.invariant-loop-member
invariant-loop-member l = l.bytes.items ≡ l.initial.bytes.items ++ flat_map (to_be_bytes w16) (take l.member-index l.members)
