use Rattle.std.proofs.Common.{◌≡◌, ◌≤◌, take}
use Rattle.journal.specs.Format.{body_len, contents}
use Rattle.journal.proofs.group.body_len_within.Given as goal

-- the length of the records so far
abbrev pub invariant-loop-record : goal.invariant-loop-record
invariant-loop-record l = record { sum : l.total ≡ body_len (contents (take l.record-index l.records)); within : l.total ≤ 4194304 }
