use Rattle.std.proofs.Common.{◌≡◌, ◌≤◌, take, map}
use Rattle.journal.specs.Format.{body_len}
use Rattle.test_disk.proofs.store.encoding.body_len_within.Given as goal

-- the length of the records so far
abbrev pub invariant-loop-record : goal.invariant-loop-record
invariant-loop-record l = record { sum : l.total ≡ body_len (map (λ one. one.bytes) (take l.record-index l.records)); within : l.total ≤ 4194304 }
