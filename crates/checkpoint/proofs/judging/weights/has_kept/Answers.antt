use Rattle.std.proofs.Common.{◌≡◌, false, rules}
use Rattle.std.specs.Prelude.{◌==◌}
use Rattle.spec_model.specs.Nodes.{node_view}
use Rattle.checkpoint.proofs.OwnOrFound.{found_of_other}
use Rattle.checkpoint.proofs.judging.weights.has_kept.Goals as goal

pub returns-else-voter-node : goal.returns-else-voter-node
returns-else-voter-node g c =
    let node = node_view g.S.Sign.scheme c.args.node.now in
    let apart : (c.args.voter == c.args.node.now.own.0) ≡ false = search rules in
    let same : c.as_slice.result.now ≡ c.args.read.now.votes = search rules in
    found_of_other node c.args.read.now c.args.voter c.as_slice.result.now c.has_vote_of.result apart same c.has_vote_of.ensures
