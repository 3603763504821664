use Rattle.std.proofs.Common.{List, ℕ, ◌++◌, take}
use Rattle.std.specs.List.{flat_map}
use Rattle.sha2.specs.Hashers.{Holds256}
use Rattle.wire.specs.Encoding.{batch_reference_bytes}
use Rattle.wire.proofs.digests.feed_batches.Given as goal

-- the batches so far were fed
abbrev pub invariant-loop-batch : goal.invariant-loop-batch
invariant-loop-batch l = (m : List ℕ) → Holds256 l.fn.hasher m → Holds256 l.hasher (m ++ flat_map batch_reference_bytes (take l.batch-index l.batches))
