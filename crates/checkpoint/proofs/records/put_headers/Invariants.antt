use Rattle.std.proofs.Common.{◌≡◌, ◌++◌, map, take}
use Rattle.spec_checkpoint.specs.Records.{header_record}
use Rattle.checkpoint.specs.Kept.{header_of}
use Rattle.checkpoint.proofs.records.put_headers.Given as goal

-- those so far have been put
abbrev pub invariant-loop-voted : goal.invariant-loop-voted
invariant-loop-voted g l = g.S.RecordSink.records l.sink ≡ g.S.RecordSink.records l.initial.sink ++ map header_record (map header_of (take l.voted-index l.headers))
