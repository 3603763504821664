use Rattle.std.proofs.Common.{◌≡◌, take}
use Rattle.std.specs.Prelude.{All}
use Rattle.std.specs.Map.{values_of}
use Rattle.batchstore.specs.Kept.{IsUnderItsDigest}
use Rattle.checkpoint.proofs.parts.batches.batches_of.Given as goal

-- the batches before the place are found, each with its digest
abbrev pub invariant-loop-place : goal.invariant-loop-place
invariant-loop-place l = record {
  digested : All IsUnderItsDigest l.found.items;
  held : values_of l.found.items ≡ take l.place l.batches.held;
}
