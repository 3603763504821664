use Rattle.std.proofs.Common.{◌≡◌, ◌+◌, ◌*◌, ◌++◌, length, take}
use Rattle.std.specs.Int.{w16, to_be_bytes}
use Rattle.std.specs.List.{flat_map}
use Rattle.wire.specs.Encoding.{batch_reference_bytes}
use Rattle.wire.proofs.encoding.write_batches.Given as goal

-- the count and the batches so far were written
abbrev pub invariant-loop-batch : goal.invariant-loop-batch
invariant-loop-batch l = record {
  bytes : take l.next l.area ≡ take l.fn.place l.fn.area ++ (to_be_bytes w16 (length l.list) ++ flat_map batch_reference_bytes (take l.batch-index l.list));
  place : l.next ≡ l.fn.place + (2 + 34 * l.batch-index);
  len : length l.area ≡ length l.fn.area;
}
