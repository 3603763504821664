use Rattle.std.proofs.Common.{◌≡◌, ◌++◌, take}
use Rattle.journal.specs.Format.{body_bytes, contents}
use Rattle.journal.proofs.group.put_body.Given as goal

-- the records so far stand after the bytes
abbrev pub invariant-loop-record : goal.invariant-loop-record
invariant-loop-record l = l.bytes.items ≡ l.initial.bytes.items ++ body_bytes (contents (take l.record-index l.records))
