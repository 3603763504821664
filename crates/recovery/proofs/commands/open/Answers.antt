use Rattle.std.proofs.Common.{sym, ap, ◌∙◌, subst}
use Rattle.journal.specs.Pairs.{areas_in}
use Rattle.validator.specs.Setting.{node_of}
use Rattle.desk.specs.Disks.{Leaves}
use Rattle.recovery.specs.Script.{is_two, IsNotOpened}
use Rattle.recovery.proofs.DeskOpening.{opened_of, same_disks, not_opened_of}
use Rattle.recovery.proofs.commands.open.Goals as goal

pub returns-in-Ok-clause-ok : goal.returns-in-Ok-clause-ok
returns-in-Ok-clause-ok g c =
    opened_of (node_of g.S.Sign.scheme c.args.config.now) g.D.Disk.device c.keys_hold.ensures (areas_in g.D.Disk.device c.args.store) c.in-Ok.desk c.in-Ok.ensures.ok

pub returns-in-Ok-clause-disks : goal.returns-in-Ok-clause-disks
returns-in-Ok-clause-disks g c = (same_disks (node_of g.S.Sign.scheme c.args.config.now) g.D.Disk.device c.args.store _ c.in-Ok.ensures.opening.any_moment, tt)

pub returns-in-Err-clause-disks : goal.returns-in-Err-clause-disks
returns-in-Err-clause-disks g c =
    (tt, ap is_two c.ended.ensures.disk ∙ same_disks (node_of g.S.Sign.scheme c.args.config.now) g.D.Disk.device c.args.store c.in-Err.failed.disk c.in-Err.ensures.opening.any_moment)

pub returns-in-Err-clause-err : goal.returns-in-Err-clause-err
returns-in-Err-clause-err g c =
    let node = node_of g.S.Sign.scheme c.args.config.now in
    let device = g.D.Disk.device in
    subst (λ d. IsNotOpened node c.ended.result.error (areas_in device c.args.store) (Leaves device c.args.store) (Leaves device d)) (sym c.ended.ensures.disk)
    (not_opened_of node device g.met.D.Disk.counts_now _ c.args.store c.in-Err.failed c.ended.result.error c.ended.ensures.error c.in-Err.ensures.opening)
