use Rattle.cluster.specs.Threads.{HasRun}
use Rattle.cluster.proofs.worker.Worker.run.Given as goal

-- it made some of the turns
abbrev pub invariant-turns : goal.invariant-turns
invariant-turns g l = HasRun g.S.Sign.scheme g.D.Disk.device (g.V.Verify.accepts l.verifier) l.made l.initial.self.member l.self.member
