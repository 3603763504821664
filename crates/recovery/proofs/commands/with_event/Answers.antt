use Rattle.std.proofs.Common.{ap, ◌∙◌}
use Rattle.validator.specs.Setting.{node_of}
use Rattle.journal.specs.Pairs.{store_of}
use Rattle.spec_world.specs.Text.{take_in}
use Rattle.recovery.proofs.Desks.{same_breaks, breaks_at}
use Rattle.recovery.proofs.commands.with_event.Goals as goal

pub returns-in-Err-clause-err : goal.returns-in-Err-clause-err
returns-in-Err-clause-err g c = λ desk is.
    let node = node_of g.S.Sign.scheme c.args.desk.book.validator.setting in
    breaks_at node g.D.Disk.device desk (take_in c.args.event) c.fail.result.error c.in-Err.error c.fail.result.disk (store_of c.args.desk.journal)
    c.fail.ensures.error (c.fail.ensures.disk ∙ ap store_of c.accept.ensures.same)
    (same_breaks node g.D.Disk.device desk c.args.desk.book c.args.desk.journal is (take_in c.args.event) c.in-Err.error c.in-Err.ensures.memory)

pub returns-in-Err-clause-same_err : goal.returns-in-Err-clause-same_err
returns-in-Err-clause-same_err g c = c.fail.ensures.disk ∙ ap store_of c.accept.ensures.same

pub returns-in-Err-clause-memory : goal.returns-in-Err-clause-memory
returns-in-Err-clause-memory g c = c.fail.ensures.error ∙ c.in-Err.ensures.memory

pub returns-in-Ok-clause-ok : goal.returns-in-Ok-clause-ok
returns-in-Ok-clause-ok g c = c.in-Ok.ensures.ok

pub returns-in-Ok-clause-same : goal.returns-in-Ok-clause-same
returns-in-Ok-clause-same g c = c.accept.ensures.same
