use Rattle.std.proofs.Common.{◌≡◌, ℕ, subst}
use Rattle.std.specs.Prelude.{IfOk}
use Rattle.spec_model.specs.Nodes.{node_view}
use Rattle.spec_model.specs.Proposing.{propose_of}
use Rattle.spec_model.specs.States.{whole}
use Rattle.ref_admission.proofs.proposing.propose.Goals as goal

pub returns : goal.returns
returns g c =
    let node = node_view g.S.Sign.scheme c.args.node.now in
    let state = whole node c.args.history.now in
    subst (λ (round : ℕ). IfOk c.propose_of.result (λ found. found ≡ propose_of node state round)) c.in_ok-round.ensures c.propose_of.ensures
