use Rattle.sim_run.proofs.Beginning.{begun_one}
use Rattle.sim_run.proofs.starting.begin.Goals as goal

pub returns-in-Ok : goal.returns-in-Ok
returns-in-Ok g c =
    begun_one g.S.Sign.scheme g.D.Disk.device c.in-Ok.node c.in-Ok.seat c.new-in-Ok.result c.args.journal c.in-Ok.flush_seat c.args.validator.setting c.args.validator.tables
    c.in-Ok.ensures.setting c.in-Ok.ensures.begun c.new-in-Ok.ensures.journal c.new-in-Ok.ensures.seat c.in-Ok.ensures.seat c.in-Ok.ensures.flush_seat c.in-Ok.ensures.flush_nothing.0
    c.in-Ok.ensures.flush_nothing.1 c.in-Ok.ensures.flush_idle c.in-Ok.ensures.right.0 c.new-in-Ok.ensures.up c.limits_hold.ensures.node c.requires.alive c.requires.pair c.requires.holds
