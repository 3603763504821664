use Rattle.std.proofs.Common.{◌≡◌, ◌<◌, sym, ap, ◌∙◌, subst}
use Rattle.validator.specs.Setting.{node_of}
use Rattle.journal.specs.Pairs.{store_of}
use Rattle.journal.specs.Stores.{faults_in}
use Rattle.spec_world.specs.Text.{flush}
use Rattle.recovery.specs.Script.{is_two}
use Rattle.recovery.proofs.Desks.{breaks_at}
use Rattle.recovery.proofs.commands.flushed.Goals as goal

pub returns-in-Err-clause-err : goal.returns-in-Err-clause-err
returns-in-Err-clause-err g c = λ desk is.
    let node = node_of g.S.Sign.scheme c.args.desk.book.validator.setting in
    breaks_at node g.D.Disk.device desk flush c.fail.result.error c.in-Err.error c.fail.result.disk (store_of c.flush.new.desk.journal)
    c.fail.ensures.error c.fail.ensures.disk (c.in-Err.ensures.err desk is)

pub returns-in-Err-clause-disks : goal.returns-in-Err-clause-disks
returns-in-Err-clause-disks g c = (tt, ap is_two c.fail.ensures.disk ∙ c.flush.ensures.disks)

pub returns-in-Ok-clause-disks : goal.returns-in-Ok-clause-disks
returns-in-Ok-clause-disks g c = (c.flush.ensures.disks, tt)

pub returns-in-Err-clause-cause : goal.returns-in-Err-clause-cause
returns-in-Err-clause-cause g c =
    let before = faults_in g.D.Disk.device (store_of c.args.desk.journal) in (
      tt,
      (
        λ device. subst (λ d. before < faults_in g.D.Disk.device d) (sym c.fail.ensures.disk) (c.in-Err.ensures.cause.1.0 (sym c.fail.ensures.error ∙ device)),
        λ other. subst (λ d. faults_in g.D.Disk.device d ≡ before) (sym c.fail.ensures.disk) (c.in-Err.ensures.cause.1.1 (λ is. other (c.fail.ensures.error ∙ is))),
      ),
    )

pub returns-in-Err-clause-never_output : goal.returns-in-Err-clause-never_output
returns-in-Err-clause-never_output g c = λ output. c.in-Err.ensures.never_output (sym c.fail.ensures.error ∙ output)
