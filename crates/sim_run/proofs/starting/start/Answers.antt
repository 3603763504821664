use Rattle.std.proofs.Common.{IfOk, subst}
use Rattle.validator.specs.Setting.{ConfigView}
use Rattle.sim_run.specs.Running.{AreOne}
use Rattle.sim_run.proofs.starting.start.Goals as goal

pub returns-in-Ok : goal.returns-in-Ok
returns-in-Ok g c =
    subst (λ (s : ConfigView g.row.S.Denot). IfOk c.begin.result (λ started. AreOne g.S.Sign.scheme g.D.Disk.device s started.0 started.1 started.2)) c.in-Ok.ensures.setting c.begin.ensures
