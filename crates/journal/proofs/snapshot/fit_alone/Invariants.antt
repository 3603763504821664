use Rattle.std.proofs.Common.{take}
use Rattle.std.specs.List.{All}
use Rattle.journal.specs.Format.{contents}
use Rattle.journal.specs.Snapshot.{FitsAlone}
use Rattle.journal.proofs.snapshot.fit_alone.Given as goal

-- the records so far fit
abbrev pub invariant-loop-record : goal.invariant-loop-record
invariant-loop-record l = All FitsAlone (contents (take l.record-index l.records))
