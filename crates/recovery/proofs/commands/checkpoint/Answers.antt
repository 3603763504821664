use Rattle.std.proofs.Common.{Err, ap, ◌∙◌}
use Rattle.std.proofs.lemmas.Result.{on_ok_weaker}
use Rattle.validator.specs.Setting.{node_of}
use Rattle.recovery.proofs.Faults.{on_two, rewriting_cause, disks_kept}
use Rattle.opening.proofs.Reporting.{ok_weaker}
use Rattle.recovery.proofs.Rounds.{err_with}
use Rattle.recovery.proofs.Rewriting.{checkpoint_is, checkpoint_breaks}
use Rattle.recovery.proofs.commands.checkpoint.Goals as goal

pub checkpoint-requires : goal.checkpoint-requires
checkpoint-requires g c = record { pair = on_two c.args.desk.now.journal c.requires.pair }

pub returns-clause-ok : goal.returns-clause-ok
returns-clause-ok g c =
    on_ok_weaker c.unless_failed.result (λ ok script is.
    checkpoint_is (node_of g.S.Sign.scheme c.args.desk.now.book.validator.setting) g.D.Disk.device script c.args.desk.now c.checkpoint.new.self is c.checkpoint.result ok
    c.checkpoint.ensures.settled c.checkpoint.ensures.alive) c.unless_failed.ensures.ok

pub returns-clause-disks : goal.returns-clause-disks
returns-clause-disks g c = disks_kept c.args.desk.now.journal c.checkpoint.new.self.journal c.checkpoint.result (on_two c.args.desk.now.journal c.requires.pair)
    (ok_weaker c.checkpoint.result _ _ (λ generation made. made.swapped) c.checkpoint.ensures.settled) c.checkpoint.ensures.keeps

pub returns-clause-cause : goal.returns-clause-cause
returns-clause-cause g c =
    rewriting_cause g.D.Disk.device c.args.desk.now.journal c.checkpoint.new.self.journal (on_two c.args.desk.now.journal c.requires.pair) c.checkpoint.result c.unless_failed.result
    (record {
      ok = c.unless_failed.ensures.ok;
      memory = c.unless_failed.ensures.memory;
      device = c.unless_failed.ensures.device;
      full = c.unless_failed.ensures.full;
      errors = c.unless_failed.ensures.errors;
    }) (ok_weaker c.checkpoint.result _ _ (λ generation made. made.swapped) c.checkpoint.ensures.settled) c.checkpoint.ensures.keeps c.checkpoint.ensures.untouched c.checkpoint.ensures.cause

pub returns-clause-err : goal.returns-clause-err
returns-clause-err g c =
    let before = c.args.desk.now in
    let later = c.checkpoint.new.self in
    err_with c.unless_failed.result _ _ (λ error here either script is.
    checkpoint_breaks (node_of g.S.Sign.scheme before.book.validator.setting) g.D.Disk.device script before later is (on_two before.journal c.requires.pair) c.checkpoint.result error either
    (λ so. c.unless_failed.ensures.memory (here ∙ ap (λ e. Err e) so)) (λ so. c.unless_failed.ensures.device (here ∙ ap (λ e. Err e) so))
    (λ so. c.unless_failed.ensures.full (here ∙ ap (λ e. Err e) so))
    c.checkpoint.ensures.unchanged c.checkpoint.ensures.full c.checkpoint.ensures.full_same c.checkpoint.ensures.untouched c.checkpoint.ensures.keeps
    (c.checkpoint.ensures.any_moment is.up) g.met.D.Disk.counts_now)
    c.unless_failed.ensures.errors
