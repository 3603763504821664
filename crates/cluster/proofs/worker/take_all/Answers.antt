use Rattle.cluster.proofs.Acting.{run_on}
use Rattle.cluster.proofs.worker.take_all.Goals as goal

pub envelopes-preserved : goal.envelopes-preserved
envelopes-preserved g c = run_on g.S.Sign.scheme g.D.Disk.device (g.V.Verify.accepts c.args.verifier.now) 0 0 c.args.member.now c.envelopes.member
    c.take_one.new.member c.envelopes.invariant c.in_ok-take_one.ensures
