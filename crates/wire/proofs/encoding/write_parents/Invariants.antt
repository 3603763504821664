use Rattle.std.proofs.Common.{◌≡◌, ◌+◌, ◌*◌, ◌++◌, length, take}
use Rattle.std.specs.Int.{w16, to_be_bytes}
use Rattle.std.specs.List.{flat_map}
use Rattle.wire.specs.Encoding.{parent_reference_bytes}
use Rattle.wire.proofs.encoding.write_parents.Given as goal

-- the count and the parents so far were written
abbrev pub invariant-loop-parent : goal.invariant-loop-parent
invariant-loop-parent l = record {
  bytes : take l.next l.area ≡ take l.fn.place l.fn.area ++ (to_be_bytes w16 (length l.list) ++ flat_map parent_reference_bytes (take l.parent-index l.list));
  place : l.next ≡ l.fn.place + (2 + 34 * l.parent-index);
  len : length l.area ≡ length l.fn.area;
}
