use Rattle.std.proofs.Common.{◌∙◌}
use Rattle.spec_checkpoint.specs.Faults.{has_kept}
use Rattle.spec_model.specs.Nodes.{node_view}
use Rattle.checkpoint.proofs.Sets.{weighs}
use Rattle.checkpoint.proofs.judging.weights.weight_of_voters.Goals as goal

pub returns : goal.returns
returns g c =
    c.weight.ensures.value
    ∙ weighs c.args.node.now.committee c.voters.result (has_kept (node_view g.S.Sign.scheme c.args.node.now) c.args.read.now) c.voters.ensures
