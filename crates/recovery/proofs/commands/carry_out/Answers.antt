use Rattle.std.proofs.Common.{rules, ap, sym, ◌∙◌, subst}
use borrow.Author.Rules.{in_lives}
use Rattle.std.proofs.KnownBytes.{Keeps-refl}
use Rattle.std.specs.Io.KnownBytes.{Appends}
use Rattle.std.proofs.lemmas.Result.{err_from_is_err_and}
use Rattle.journal.specs.Pairs.{store_of}
use Rattle.journal.specs.Stores.{faults_in}
use Rattle.recovery.specs.Script.{is_two}
use Rattle.validator.specs.Setting.{ConfigView, node_of}
use Rattle.spec_world.specs.Text.{Desk, after, due, without_due, frames}
use Rattle.recovery.specs.Script.{said, IsOf}
use Rattle.wire_write.specs.Frames.{AppendsLess}
use Rattle.recovery.proofs.Appending.{part_none, part_less, not_at_disk}
use Rattle.recovery.proofs.Desks.{after_breaks, breaks_at, not_device}
use Rattle.recovery.proofs.commands.carry_out.Goals as goal

pub write_due-requires : goal.write_due-requires
write_due-requires g c = record { up = (c.in_ok-desk.ensures.ok c.requires.stands.0 c.requires.stands.1).up }

pub returns-in_err-desk-clause-writes_part : goal.returns-in_err-desk-clause-writes_part
returns-in_err-desk-clause-writes_part g c =
    let held = g.W.Write.contents c.args.writer.now in
    let p = err_from_is_err_and c.from_residual.result c.from_residual.ensures.1 in
    rw (p.1, p.2) (λ desk is. part_none c.in_err-desk.field-0.0.error held held _ c.in_err-desk.ensures.never_output (Keeps-refl held))

pub returns-in-Ok-clause-ok : goal.returns-in-Ok-clause-ok
returns-in-Ok-clause-ok g c = λ desk is.
    let node = node_of g.S.Sign.scheme c.args.config.now in
    let next = c.in_ok-desk.desk in
    let command = said c.args.command in
    subst (λ (s : ConfigView g.row.S.Denot). (d : Desk) → IsOf (node_of g.S.Sign.scheme s) g.D.Disk.device d next.book next.journal
    → IsOf (node_of g.S.Sign.scheme s) g.D.Disk.device (without_due d) c.write_due.new.desk.book c.write_due.new.desk.journal)
    c.in_ok-desk.ensures.setting c.in-Ok.ensures.ok (after node desk command) (c.in_ok-desk.ensures.ok desk is)

pub returns-in-Ok-clause-writes : goal.returns-in-Ok-clause-writes
returns-in-Ok-clause-writes g c = λ desk is.
    let node = node_of g.S.Sign.scheme c.args.config.now in
    let next = c.in_ok-desk.desk in
    let command = said c.args.command in
    subst (λ (s : ConfigView g.row.S.Denot). (d : Desk) → IsOf (node_of g.S.Sign.scheme s) g.D.Disk.device d next.book next.journal
    → Appends (g.W.Write.contents c.args.writer.now) (g.W.Write.contents c.write_due.new.writer) (frames (due d)))
    c.in_ok-desk.ensures.setting c.in-Ok.ensures.writes (after node desk command) (c.in_ok-desk.ensures.ok desk is)

pub returns-in-Err-clause-err : goal.returns-in-Err-clause-err
returns-in-Err-clause-err g c = λ desk is.
    let node = node_of g.S.Sign.scheme c.args.config.now in
    let next = c.in_ok-desk.desk in
    let command = said c.args.command in
    breaks_at node g.D.Disk.device desk command c.fail.result.error c.in-Err.error c.fail.result.disk (store_of next.journal) c.fail.ensures.error
    (c.fail.ensures.disk ∙ ap store_of c.write_due.ensures.same)
    (after_breaks node g.D.Disk.device desk command next.book next.journal (c.in_ok-desk.ensures.ok desk is) c.in-Err.error c.in-Err.ensures.errors)

pub returns-in-Err-clause-writes_part : goal.returns-in-Err-clause-writes_part
returns-in-Err-clause-writes_part g c = λ desk is.
    let node = node_of g.S.Sign.scheme c.args.config.now in
    let next = c.in_ok-desk.desk in
    let command = said c.args.command in
    let less = subst (λ (s : ConfigView g.row.S.Denot). (d : Desk) → IsOf (node_of g.S.Sign.scheme s) g.D.Disk.device d next.book next.journal
    → AppendsLess (g.W.Write.contents c.args.writer.now) (g.W.Write.contents c.write_due.new.writer) (frames (due d)))
    c.in_ok-desk.ensures.setting c.in-Err.ensures.writes_part (after node desk command) (c.in_ok-desk.ensures.ok desk is) in
    part_less c.fail.result.error (g.W.Write.contents c.args.writer.now) (g.W.Write.contents c.write_due.new.writer) _
    (not_at_disk c.fail.result.error c.in-Err.error c.fail.ensures.error c.in-Err.ensures.errors) less

pub returns-in-Err-clause-cause : goal.returns-in-Err-clause-cause
returns-in-Err-clause-cause g c = (
  tt,
  (
    λ device. absurd (not_device c.in-Err.error c.in-Err.ensures.errors (sym c.fail.ensures.error ∙ device)),
    λ other. ap (faults_in g.D.Disk.device) (c.fail.ensures.disk ∙ ap store_of c.write_due.ensures.same) ∙ c.in_ok-desk.ensures.cause.0,
  ),
)

pub branch-desk-requires : goal.branch-desk-requires
branch-desk-requires g c κs = λ h. simp (in_lives, h.0.0, h.1.0, h.1.1.0, h.1.1.1.0) (search rules)

pub from_residual-requires : goal.from_residual-requires
from_residual-requires g c κs = λ h. simp (in_lives, h.0.0, h.1.0, h.1.1.0, h.1.1.1.0, h.1.1.1.1.0) (search rules)

pub returns-in-Err-clause-disks : goal.returns-in-Err-clause-disks
returns-in-Err-clause-disks g c = (tt, ap is_two (c.fail.ensures.disk ∙ ap store_of c.write_due.ensures.same) ∙ c.in_ok-desk.ensures.disks.0)

pub returns-in-Ok-clause-disks : goal.returns-in-Ok-clause-disks
returns-in-Ok-clause-disks g c = (ap (λ j. is_two (store_of j)) c.write_due.ensures.same ∙ c.in_ok-desk.ensures.disks.0, tt)
