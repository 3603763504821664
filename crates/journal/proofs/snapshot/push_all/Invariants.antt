use Rattle.std.proofs.Common.{◌≡◌, ◌++◌, take}
use Rattle.journal.specs.Format.{contents}
use Rattle.journal.proofs.snapshot.push_all.Given as goal

-- the records so far were added
abbrev pub invariant-loop-record : goal.invariant-loop-record
invariant-loop-record l = l.draft ≡ l.initial.draft ++ contents (take l.record-index l.records)
