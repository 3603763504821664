use Rattle.std.proofs.Common.{ℕ, List, Option, refl, sym, ap, ◌∙◌, subst}
use Rattle.std.specs.Io.KnownBytes.{Appends}
use Rattle.journal.specs.declared.journal.Journal.{Journal}
use Rattle.validator.specs.Setting.{ConfigView, node_of}
use Rattle.spec_world.specs.Text.{due, without_due, frames}
use Rattle.book.specs.Book.{BookView, Run, Stands}
use Rattle.recovery.specs.Script.{IsOf}
use Rattle.wire_write.proofs.Appending.{on_err}
use Rattle.recovery.proofs.Dues.{nothing_written, goes_on, queue_falls, all_written, none_due, part_written}
use Rattle.recovery.proofs.commands.write_due.Goals as goal

pub writing-init : goal.writing-init
writing-init g c = record {
  so_far = nothing_written (node_of g.S.Sign.scheme c.args.desk.now.book.validator.setting) c.args.desk.now.book (g.W.Write.contents c.args.writer.now);
  journal = refl;
}

pub writing-preserved : goal.writing-preserved
writing-preserved g c =
    let node = node_of g.S.Sign.scheme c.args.desk.now.book.validator.setting in
    let before : BookView g.row.S.Denot = c.args.desk.now.book in
    let now : BookView g.row.S.Denot = c.writing.desk.book in
    let old = g.W.Write.contents c.args.writer.now in
    let mid = g.W.Write.contents c.writing.writer in
    let new = g.W.Write.contents c.write_next.new.writer in
    let so_far = c.writing.invariant.so_far in
    let later : BookView g.row.S.Denot = c.write_next.new.desk.book in
    let stands = subst (λ (s : ConfigView g.row.S.Denot). (run : Run) → Stands (node_of g.S.Sign.scheme s) run now → Stands (node_of g.S.Sign.scheme s) run later)
    (ap (λ (b : BookView g.row.S.Denot). b.validator.setting) so_far.same) c.write_next.ensures.stands in
    record {
      so_far = goes_on node before now later old mid new so_far c.requires.up stands (c.in_ok-write_next.ensures.next c.if-branch.true);
      journal = c.write_next.ensures.same ∙ c.writing.invariant.journal;
    }

pub writing-smaller : goal.writing-smaller
writing-smaller g c = queue_falls c.writing.desk.book c.write_next.new.desk.book (g.W.Write.contents c.writing.writer)
    (g.W.Write.contents c.write_next.new.writer) (c.in_ok-write_next.ensures.next c.if-branch.true)

pub returns-in_err-write_next-clause-writes_part : goal.returns-in_err-write_next-clause-writes_part
returns-in_err-write_next-clause-writes_part g c =
    let node = node_of g.S.Sign.scheme c.args.desk.now.book.validator.setting in
    let before : BookView g.row.S.Denot = c.args.desk.now.book in
    let now : BookView g.row.S.Denot = c.writing.desk.book in
    let old = g.W.Write.contents c.args.writer.now in
    let mid = g.W.Write.contents c.writing.writer in
    let new = g.W.Write.contents c.write_next.new.writer in
    let so_far = c.writing.invariant.so_far in
    let part = c.in_err-write_next.ensures.part in
    on_err c.from_residual.result _
    (λ desk is. part_written node before now old mid so_far c.requires.up g.D.Disk.device c.args.desk.now.journal desk is part.output new part.is part.appends)

pub returns-clause-ok : goal.returns-clause-ok
returns-clause-ok g c = λ desk is.
    let node = node_of g.S.Sign.scheme c.args.desk.now.book.validator.setting in
    let before : BookView g.row.S.Denot = c.args.desk.now.book in
    let now : BookView g.row.S.Denot = c.writing.desk.book in
    let old = g.W.Write.contents c.args.writer.now in
    let mid = g.W.Write.contents c.writing.writer in
    let new = g.W.Write.contents c.write_next.new.writer in
    let so_far = c.writing.invariant.so_far in
    let none = c.in_ok-write_next.ensures.none c.if-branch.false in
    let at = none_due node before now old mid so_far c.requires.up g.D.Disk.device c.args.desk.now.journal desk is none.none in
    subst (λ (j : Journal g.row.D.Denot). IsOf node g.D.Disk.device (without_due desk) c.write_next.new.desk.book j) (sym (c.write_next.ensures.same ∙ c.writing.invariant.journal))
    (subst (λ (b : BookView g.row.S.Denot). IsOf node g.D.Disk.device (without_due desk) b c.args.desk.now.journal) (sym none.same) at)

pub returns-clause-writes : goal.returns-clause-writes
returns-clause-writes g c = λ desk is.
    let node = node_of g.S.Sign.scheme c.args.desk.now.book.validator.setting in
    let before : BookView g.row.S.Denot = c.args.desk.now.book in
    let now : BookView g.row.S.Denot = c.writing.desk.book in
    let old = g.W.Write.contents c.args.writer.now in
    let mid = g.W.Write.contents c.writing.writer in
    let new = g.W.Write.contents c.write_next.new.writer in
    let so_far = c.writing.invariant.so_far in
    let none = c.in_ok-write_next.ensures.none c.if-branch.false in
    subst (λ (w : Option (List ℕ)). Appends old w (frames (due desk))) (sym none.keeps)
    (all_written node before now old mid so_far c.requires.up g.D.Disk.device c.args.desk.now.journal desk is none.none)
