use Rattle.std.proofs.Common.{◌∙◌, ℕ}
use Rattle.std.specs.Prelude.{◌&&◌, ◌==◌, not}
use Rattle.spec_checkpoint.specs.Faults.{has_kept}
use Rattle.spec_model.specs.Nodes.{node_view}
use Rattle.checkpoint.proofs.Sets.{weighs}
use Rattle.checkpoint.proofs.judging.weights.weight_of_others.Goals as goal

pub returns : goal.returns
returns g c =
    c.weight.ensures.value
    ∙ weighs c.args.node.now.committee c.other_voters.result
    (λ (m : ℕ). has_kept (node_view g.S.Sign.scheme c.args.node.now) c.args.read.now m && not (m == c.args.left_out)) c.other_voters.ensures
