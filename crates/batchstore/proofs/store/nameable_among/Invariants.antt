use Rattle.std.proofs.Common.{◌≡◌, map, take}
use Rattle.std.specs.Map.{values_of}
use Rattle.batchstore.specs.Kept.{reference_of}
use Rattle.batchstore.specs.Stock.{nameable_among}
use Rattle.batchstore.proofs.store.nameable_among.Given as goal

-- those of the batches so far are listed
abbrev pub invariant-loop-entry : goal.invariant-loop-entry
invariant-loop-entry l = map reference_of l.nameable.entries ≡ nameable_among l.committee l.own.0 (values_of (take l.entry-index l.batches))
