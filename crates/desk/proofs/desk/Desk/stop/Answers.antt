use Rattle.std.proofs.Common.{subst}
use Rattle.journal.specs.Journal.{disk_of}
use Rattle.opening.proofs.Reporting.{ok_weaker, err_weaker}
use Rattle.validator.specs.Setting.{node_of}
use Rattle.desk.proofs.Openings.{stopped_of}
use Rattle.desk.proofs.Worlds.{stops_alone}
use Rattle.desk.proofs.desk.Desk.stop.Goals as goal

pub returns-clause-err : goal.returns-clause-err
returns-clause-err g c =
    let node = node_of g.S.Sign.scheme c.args.config.now in
    let found = g.D.Disk.device.content c.stop.new.self in
    let may = subst (λ (d : g.row.D.Denot). g.D.Disk.device.outcome d found) c.into_disk-disk.ensures c.stop.ensures.content in
    err_weaker c.open.result _ _
    (λ failed one. (
      found,
      may,
      stopped_of node failed.error found (g.D.Disk.device.outcome (disk_of c.args.self.journal)) (g.D.Disk.device.outcome c.stop.new.self) (g.D.Disk.device.outcome failed.disk)
          (λ bytes is. subst (λ (d : g.row.D.Denot). g.D.Disk.device.outcome d bytes) c.into_disk-disk.ensures (c.stop.ensures.outcomes bytes is)) one,
    ))
    c.open.ensures.err

pub returns-clause-steps : goal.returns-clause-steps
returns-clause-steps g c =
    let node = node_of g.S.Sign.scheme c.args.config.now in
    let found = g.D.Disk.device.content c.stop.new.self in
    let may = subst (λ (d : g.row.D.Denot). g.D.Disk.device.outcome d found) c.into_disk-disk.ensures c.stop.ensures.content in
    ok_weaker c.open.result _ _ (λ next opened world is. stops_alone node g.D.Disk.device world c.args.self is c.requires.alone found may next opened) c.open.ensures.ok
