use Rattle.std.proofs.Common.{ℕ, rules}
use Rattle.std.specs.Prelude.{◌&&◌, ◌==◌, not}
use Rattle.spec_checkpoint.specs.Faults.{has_kept}
use Rattle.spec_model.specs.Nodes.{node_view}
use Rattle.checkpoint.proofs.Sets.{with_member, without_member}
use Rattle.checkpoint.proofs.judging.weights.other_voters.Goals.{then-has_kept_of_others, else-has_kept_of_others}
use Rattle.checkpoint.proofs.judging.weights.other_voters.Goals as goal

pub loop-voter-preserved : goal.loop-voter-preserved
loop-voter-preserved g c =
    elim c.if-has_kept_of_others.branch [
      | then-has_kept_of_others w ↦
          with_member (λ (m : ℕ). has_kept (node_view g.S.Sign.scheme c.args.node.now) c.args.read.now m && not (m == c.args.left_out)) c.loop-voter.voter c.loop-voter.found
          w.insert.new.self c.if-has_kept_of_others.found c.loop-voter.invariant w.insert.ensures w.found-is (search rules)
      | else-has_kept_of_others w ↦
          without_member (λ (m : ℕ). has_kept (node_view g.S.Sign.scheme c.args.node.now) c.args.read.now m && not (m == c.args.left_out)) c.loop-voter.voter c.loop-voter.found
          c.if-has_kept_of_others.found c.loop-voter.invariant w.found-is (search rules)
    ]
