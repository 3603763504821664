use Rattle.std.proofs.Common.{◌≡◌, ◌++◌, take, drop}
use Rattle.std.specs.Prelude.{map}
use Rattle.journal.specs.Areas.{moved_by}
use Rattle.journal.specs.declared.layout.TheConstants.{SECOND_AREA}
use Rattle.journal_account.proofs.areas.move_all.Given as goal

-- the places so far are counted from the second area
abbrev pub invariant-loop-one : goal.invariant-loop-one
invariant-loop-one l = l.one-items ≡ map (moved_by SECOND_AREA) (take l.one-index l.initial.one-items) ++ drop l.one-index l.initial.one-items
