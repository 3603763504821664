use Rattle.cluster.specs.Threads.{HasRun}
use Rattle.cluster.proofs.worker.take_all.Given as goal

-- it was given some of them
abbrev pub invariant-envelopes : goal.invariant-envelopes
invariant-envelopes g l = HasRun g.S.Sign.scheme g.D.Disk.device (g.V.Verify.accepts l.verifier) 0 l.initial.member l.member
