use Rattle.std.proofs.Common.{◌≡◌, ◌++◌, map, take}
use Rattle.spec_checkpoint.specs.Records.{certificate_record}
use Rattle.checkpoint.specs.Kept.{certificate_of}
use Rattle.checkpoint.proofs.records.put_certificates.Given as goal

-- those so far have been put
abbrev pub invariant-loop-entry : goal.invariant-loop-entry
invariant-loop-entry g l = g.S.RecordSink.records l.sink ≡ g.S.RecordSink.records l.initial.sink ++ map certificate_record (map certificate_of (take l.entry-index l.certificates))
