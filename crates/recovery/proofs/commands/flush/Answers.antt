use Rattle.std.proofs.Common.{Err, ap, ◌∙◌}
use Rattle.std.proofs.lemmas.Result.{on_ok_weaker}
use Rattle.book.specs.InFlight.{IsWithOrWithout}
use Rattle.desk.proofs.Standing.{left_by}
use Rattle.journal.specs.Journal.{disk_of}
use Rattle.validator.specs.Setting.{node_of}
use Rattle.recovery.proofs.Faults.{disks_same, flush_cause}
use Rattle.recovery.proofs.Rounds.{round_is, round_breaks, err_with}
use Rattle.recovery.proofs.commands.flush.Goals as goal

pub returns-clause-ok : goal.returns-clause-ok
returns-clause-ok g c =
    on_ok_weaker c.unless_failed.result (λ ok script is.
    round_is (node_of g.S.Sign.scheme c.args.desk.now.book.validator.setting) g.D.Disk.device script c.args.desk.now c.flush.new.self is c.flush.result ok
    c.flush.ensures.idle c.flush.ensures.flushed c.flush.ensures.alive c.flush.ensures.spare) c.unless_failed.ensures.ok

pub returns-clause-disks : goal.returns-clause-disks
returns-clause-disks g c = disks_same c.args.desk.now.journal c.flush.new.self.journal c.flush.ensures.spare

pub returns-clause-cause : goal.returns-clause-cause
returns-clause-cause g c =
    flush_cause g.D.Disk.device c.args.desk.now.journal c.flush.new.self.journal c.flush.ensures.spare c.flush.result c.unless_failed.result
    (record {
      ok = c.unless_failed.ensures.ok;
      memory = c.unless_failed.ensures.memory;
      device = c.unless_failed.ensures.device;
      full = c.unless_failed.ensures.full;
      errors = c.unless_failed.ensures.errors;
    }) c.flush.ensures.cause

pub returns-clause-err : goal.returns-clause-err
returns-clause-err g c =
    let before = c.args.desk.now in
    let later = c.flush.new.self in
    err_with c.unless_failed.result _ _ (λ error here either script is.
    round_breaks (node_of g.S.Sign.scheme c.args.desk.now.book.validator.setting) g.D.Disk.device script before later is c.flush.result error either
    (λ so. c.unless_failed.ensures.memory (here ∙ ap (λ e. Err e) so)) (λ so. c.unless_failed.ensures.device (here ∙ ap (λ e. Err e) so))
    (λ so. c.unless_failed.ensures.full (here ∙ ap (λ e. Err e) so))
    c.flush.ensures.unchanged c.flush.ensures.full c.flush.ensures.full_same c.flush.ensures.spare
    (λ bytes may. left_by g.D.Disk.device (disk_of before.journal) (disk_of later.journal)
    (IsWithOrWithout before.book.pending (g.D.Disk.device.content (disk_of before.journal))) bytes
    (c.flush.ensures.any_moment is.up) g.met.D.Disk.counts_now may))
    c.unless_failed.ensures.errors
