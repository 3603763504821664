use Rattle.std.proofs.Common.{◌≡◌, length}
use Rattle.validator.specs.Setting.{node_of}
use Rattle.recovery.proofs.Dues.{HasWritten}
use Rattle.recovery.proofs.commands.write_due.Given as goal

-- some of what is due was written, and the rest of it is queued
abbrev pub invariant-writing : goal.invariant-writing
invariant-writing g l = record {
  so_far : HasWritten (node_of g.S.Sign.scheme l.initial.desk.book.validator.setting) l.initial.desk.book l.desk.book (g.W.Write.contents l.initial.writer) (g.W.Write.contents l.writer);
  journal : l.desk.journal ≡ l.initial.desk.journal;
}

abbrev pub decreases-writing : goal.decreases-writing
decreases-writing g l = length l.desk.book.queue
