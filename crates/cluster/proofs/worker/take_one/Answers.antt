use Rattle.std.proofs.Common.{subst}
use Rattle.spec_model.specs.Words.{Author}
use Rattle.cluster.specs.Threads.{IsHeard}
use Rattle.cluster.proofs.Acting.{took_one}
use Rattle.cluster.proofs.Sent.{heard_as}
use Rattle.cluster.proofs.worker.take_one.Goals as goal

pub returns : goal.returns
returns g c =
    took_one g.S.Sign.scheme g.D.Disk.device (g.V.Verify.accepts c.args.verifier.now)
    (record { sender = c.sender-sender.result; message = c.into_message.result }) c.in_ok-take_in.field-0 c.args.member.now c.take_in.new.self c.take_in.ensures.became.setting c.take_in.ensures.there
    (heard_as c.args.member.now.setting.own c.args.envelope c.sender-sender.result c.into_message.result c.sender-sender.ensures c.into_message.ensures
    (subst (λ (own : Author). IsHeard own c.args.envelope) c.own.ensures (c.is_for.ensures c.if-not-is_for.false))) c.in_ok-take_in.ensures.became.ok
