use Rattle.std.proofs.Common.{take}
use Rattle.std.specs.Prelude.{All}
use Rattle.opening.specs.Decoded.{IsText}
use Rattle.journal_account.proofs.reading.are_texts.Given as goal

-- the records so far have bytes
abbrev pub invariant-loop-one : goal.invariant-loop-one
invariant-loop-one l = record { texts : All IsText (take l.one-index l.records) }
