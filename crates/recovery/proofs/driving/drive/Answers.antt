use Rattle.std.proofs.Common.{◌⊎◌, subst}
use Rattle.desk.specs.Disks.{Leaves}
use Rattle.journal.specs.Pairs.{areas_in}
use Rattle.journal.specs.declared.store.Store.TheVariants.{One}
use Rattle.validator.specs.Setting.{node_of}
use Rattle.recovery.specs.Script.{script_of, HasRun, IsUnopened, IsCutShort}
use Rattle.recovery.proofs.driving.drive.Goals as goal

pub returns-in-Ok-One-clause-ok : goal.returns-in-Ok-One-clause-ok
returns-in-Ok-One-clause-ok g c =
    let node = node_of g.S.Sign.scheme c.args.config.now in
    let device = g.D.Disk.device in
    subst (λ store. HasRun node (script_of c.args.commands.items) (areas_in device (One c.args.disk)) (areas_in device store) (Leaves device store)
    (g.W.Write.contents c.args.writer.now) (g.W.Write.contents c.drive_store.new.writer)) c.in-Ok-One.field-0-is c.in-Ok-One.ensures.ok

pub returns-in-One-clause-err : goal.returns-in-One-clause-err
returns-in-One-clause-err g c =
    let node = node_of g.S.Sign.scheme c.args.config.now in
    let device = g.D.Disk.device in
    let before = One c.args.disk in
    let old = g.W.Write.contents c.args.writer.now in
    let new = g.W.Write.contents c.drive_store.new.writer in
    let error = c.in-Err.field-0.error in
    subst (λ store. IsUnopened node error (areas_in device before) (Leaves device before) (Leaves device store) old new
    ⊎ IsCutShort node (script_of c.args.commands.items) error (areas_in device before) (areas_in device store) (Leaves device store) old new)
    c.in-One.is c.in-Err.ensures.err
