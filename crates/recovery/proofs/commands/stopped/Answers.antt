use Rattle.std.proofs.Common.{sym, ap, ◌∙◌, subst}
use Rattle.journal.specs.Pairs.{areas_in, store_of}
use Rattle.validator.specs.Setting.{node_of}
use Rattle.desk.specs.Disks.{Leaves}
use Rattle.spec_world.specs.Text.{stop}
use Rattle.recovery.specs.Script.{is_two, Breaks}
use Rattle.recovery.proofs.Desks.{left_durable, left_decoded, run_at}
use Rattle.recovery.proofs.DeskOpening.{opened_of, stopped_of, same_disks, stop_breaks, stopped_disks}
use Rattle.recovery.proofs.Faults.{on_as_many}
use Rattle.recovery.proofs.commands.stopped.Goals as goal

pub returns-in-Ok-clause-ok : goal.returns-in-Ok-clause-ok
returns-in-Ok-clause-ok g c = λ script is.
    let node = node_of g.S.Sign.scheme c.args.config.now in
    let device = g.D.Disk.device in
    let opened = c.in-Ok.ensures.ok in
    stopped_of node device script opened.0 (left_decoded node device script c.args.desk.book c.args.desk.journal is opened.0 opened.1) c.in-Ok.next.book c.in-Ok.next.journal
    (opened_of node device is.keys opened.0 c.in-Ok.next opened.2)

pub returns-in-Ok-clause-disks : goal.returns-in-Ok-clause-disks
returns-in-Ok-clause-disks g c =
    let opened = c.in-Ok.ensures.ok in
    (on_as_many g.D.Disk.device c.args.desk.journal c.in-Ok.next.journal opened.0 opened.1 opened.2.disks, tt)

pub returns-in-Err-clause-disks : goal.returns-in-Err-clause-disks
returns-in-Err-clause-disks g c =
    let node = node_of g.S.Sign.scheme c.args.config.now in
    let device = g.D.Disk.device in
    let err = c.in-Err.ensures.err in (
      tt,
      ap is_two c.ended.ensures.disk ∙ same_disks node device err.0 c.in-Err.failed.disk err.2.any_moment ∙ stopped_disks device (store_of c.args.desk.journal) err.0 err.1,
    )

pub returns-in-Err-clause-err : goal.returns-in-Err-clause-err
returns-in-Err-clause-err g c = λ script is.
    let node = node_of g.S.Sign.scheme c.args.config.now in
    let device = g.D.Disk.device in
    let err = c.in-Err.ensures.err in
    let failed = c.in-Err.failed in
    subst (λ d. Breaks node script stop c.ended.result.error (areas_in device d) (Leaves device d)) (sym c.ended.ensures.disk)
    (stop_breaks node device g.met.D.Disk.counts_now script _ (store_of c.args.desk.journal) err.0 failed c.ended.result.error c.ended.ensures.error err.1
    (left_durable node device script c.args.desk.book c.args.desk.journal is) (c.in-Err.ensures.never_refused _ (run_at node device script c.args.desk.book c.args.desk.journal is)) err.2)
