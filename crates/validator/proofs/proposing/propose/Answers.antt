use Rattle.validator.proofs.Agreeing.{header_is_proposed}
use Rattle.validator.proofs.proposing.propose.Goals as goal

pub returns : goal.returns
returns g c node state at =
    let sign = g.S.Sign.scheme.signature_of c.args.signer.now in
    let stock = c.args.batches.now in
    let named = c.nameable_agrees.ensures node state stock c.limits_hold.ensures at.batches in
    let round = c.round.ensures.value node state at.sound at.certificates in
    header_is_proposed node state c.args.own sign stock c.args.headers.now c.args.sequencer.now at named c.round.result c.in-Some.round c.dag.result.now c.in_ok-header.header
    round c.in-Some.ensures c.dag.ensures c.in_ok-header.ensures
