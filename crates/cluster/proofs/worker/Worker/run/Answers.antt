use Rattle.cluster.proofs.Acting.{none_run, run_on}
use Rattle.cluster.proofs.worker.Worker.run.Goals as goal

pub turns-init : goal.turns-init
turns-init g c = none_run g.S.Sign.scheme g.D.Disk.device (g.V.Verify.accepts c.args.verifier.now) c.args.self.member

pub turns-preserved : goal.turns-preserved
turns-preserved g c = run_on g.S.Sign.scheme g.D.Disk.device (g.V.Verify.accepts c.args.verifier.now) c.turns.made 1 c.args.self.member
    c.turns.self.member c.turn.new.self.member c.turns.invariant c.in_ok-turn.ensures
