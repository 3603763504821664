use Rattle.std.proofs.Common.{◌∙◌}
use Rattle.spec_model.specs.Nodes.{node_view}
use Rattle.spec_model.specs.States.{holds}
use Rattle.ref_order.proofs.Sets.{weighs}
use Rattle.ref_order.proofs.held.weight_of_holders.Goals as goal

pub returns : goal.returns
returns g c =
    let node = node_view g.S.Sign.scheme c.args.node.now in
    c.weight.ensures.value ∙ weighs node.charter c.holders.result (holds node (g.H.Held.state c.args.held.now) c.args.digest.now) c.holders.ensures
