use Rattle.std.proofs.Common.{Err, ap, ◌∙◌, subst}
use Rattle.std.proofs.lemmas.Result.{err_from_is_err_and}
use Rattle.opening.proofs.Opened.{no_refusal}
use Rattle.opening.specs.Decoded.{decoded}
use Rattle.opening.proofs.Reporting.{decoded_same}
use Rattle.validator.specs.Setting.{node_of}
use Rattle.cluster.proofs.Members.{counts_as, err_of}
use Rattle.cluster.proofs.Turning.{opened_same, left_decoded}
use Rattle.cluster.proofs.turns.restart.Goals as goal

pub returns-in-Ok-clause-opened : goal.returns-in-Ok-clause-opened
returns-in-Ok-clause-opened g c =
    let node = node_of g.S.Sign.scheme c.args.config.now in
    let found = g.D.Disk.device.content c.stop.new.self in
    let may = subst (λ (d : g.row.D.Denot). g.D.Disk.device.outcome d found) c.into_disk-disk.ensures c.stop.ensures.content in
    let opened = opened_same node g.D.Disk.device found (g.D.Disk.device.content c.in_ok-events.disk) c.in-Ok.desk
    (decoded_same node (g.D.Disk.device.content c.in_ok-events.disk) found c.in_ok-events.ensures.same) c.in-Ok.ensures.ok in
    (found, may, opened, c.in_ok-events.ensures.count)

pub returns-in_err-events-clause-refused : goal.returns-in_err-events-clause-refused
returns-in_err-events-clause-refused g c =
    let node = node_of g.S.Sign.scheme c.args.config.now in
    let found = g.D.Disk.device.content c.stop.new.self in
    let may = subst (λ (d : g.row.D.Denot). g.D.Disk.device.outcome d found) c.into_disk-disk.ensures c.stop.ensures.content in
    let p = err_from_is_err_and c.from_residual.result c.from_residual.ensures.1 in
    rw (p.1, p.2)
    (λ world at. let decoded_as = left_decoded node g.D.Disk.device world c.args.desk at c.requires.alone found may in c.in_err-events.ensures.refused node decoded_as.0 decoded_as.1)

pub returns-in-Err-clause-refused : goal.returns-in-Err-clause-refused
returns-in-Err-clause-refused g c = λ world at.
    let node = node_of g.S.Sign.scheme c.args.config.now in
    let found = g.D.Disk.device.content c.stop.new.self in
    let may = subst (λ (d : g.row.D.Denot). g.D.Disk.device.outcome d found) c.into_disk-disk.ensures c.stop.ensures.content in
    let decoded_as = left_decoded node g.D.Disk.device world c.args.desk at c.requires.alone found may in
    let later = g.D.Disk.device.content c.in_ok-events.disk in
    no_refusal c.in-Err.failed.error decoded_as.0 (decoded node later) (decoded_same node later found c.in_ok-events.ensures.same ∙ decoded_as.1) c.in-Err.ensures.err.reports

pub returns-in_err-events-clause-device : goal.returns-in_err-events-clause-device
returns-in_err-events-clause-device g c =
    let p = err_from_is_err_and c.from_residual.result c.from_residual.ensures.1 in
    rw (p.1, p.2)
    (λ is. counts_as g.D.Disk.device c.stop.new.self _ (c.stop.ensures.faults ∙ ap g.D.Disk.device.faults c.into_disk-disk.ensures) (c.in_err-events.ensures.device (ap (λ e. Err e) (err_of _ is))))

pub returns-in-Err-clause-device : goal.returns-in-Err-clause-device
returns-in-Err-clause-device g c = λ is.
    counts_as g.D.Disk.device c.in_ok-events.disk _ (c.in_ok-events.ensures.no_fault ∙ c.stop.ensures.faults ∙ ap g.D.Disk.device.faults c.into_disk-disk.ensures)
    (c.in-Err.failed.disk, c.in-Err.ensures.opening.cause.1.0 (err_of c.in-Err.failed.error is))
