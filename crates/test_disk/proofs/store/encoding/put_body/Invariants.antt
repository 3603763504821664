use Rattle.std.proofs.Common.{◌≡◌, ◌++◌, take, map}
use Rattle.journal.specs.Format.{body_bytes}
use Rattle.test_disk.proofs.store.encoding.put_body.Given as goal

-- the records so far stand after the bytes
abbrev pub invariant-loop-record : goal.invariant-loop-record
invariant-loop-record l = l.bytes.items ≡ l.initial.bytes.items ++ body_bytes (map (λ one. one.bytes) (take l.record-index l.records))
