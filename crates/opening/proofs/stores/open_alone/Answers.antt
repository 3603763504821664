use Rattle.opening.proofs.AloneOpening.{alone_opened, alone_failed}
use Rattle.opening.proofs.stores.open_alone.Goals as goal

pub returns-in-Ok : goal.returns-in-Ok
returns-in-Ok g c =
    let is = c.in-Ok.ensures in
    alone_opened g.S.Sign.scheme g.D.Disk.device c.args.config.now c.args.disk c.in-Ok.opened.0 c.in-Ok.opened.1 is.setting is.stands is.same is.alive is.configured is.alone is.stands_for
    is.kept is.holds is.opening

pub returns-in-Err : goal.returns-in-Err
returns-in-Err g c =
    let is = c.in-Err.ensures in
    alone_failed g.S.Sign.scheme g.D.Disk.device c.args.config.now c.args.disk c.in-Err.field-0 is.opening is.unchanged
