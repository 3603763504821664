use Rattle.std.proofs.Common.{◌≡◌, ◌++◌, map, take}
use Rattle.spec_checkpoint.specs.Records.{batch_record}
use Rattle.checkpoint.specs.Kept.{batch_of}
use Rattle.checkpoint.proofs.records.put_batches.Given as goal

-- those so far have been put
abbrev pub invariant-loop-entry : goal.invariant-loop-entry
invariant-loop-entry g l = g.S.RecordSink.records l.sink ≡ g.S.RecordSink.records l.initial.sink ++ map batch_record (map batch_of (take l.entry-index l.batches))
