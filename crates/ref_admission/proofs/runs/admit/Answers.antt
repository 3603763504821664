use Rattle.std.proofs.Common.{◌≡◌, subst}
use Rattle.std.specs.Prelude.{IfOk}
use Rattle.spec_model.specs.Admitting.{answer}
use Rattle.spec_model.specs.Histories.{History}
use Rattle.spec_model.specs.Nodes.{node_view}
use Rattle.spec_model.specs.States.{whole}
use Rattle.ref_admission.proofs.runs.admit.Goals as goal

pub returns : goal.returns
returns g c =
    let node = node_view g.S.Sign.scheme c.args.node.now in
    let now = whole node c.args.arrival.now.history.now in
    subst (λ (events : History). IfOk c.answer.result (λ found. found ≡ answer node now (whole node events) c.args.arrival.now.event.now)) c.args.arrival.now.joined c.answer.ensures
