use Rattle.std.proofs.Common.{ℕ, ◌∙◌}
use Rattle.std.specs.Prelude.{is_some}
use Rattle.ref_order.proofs.Sets.{weighs}
use Rattle.ref_order.proofs.votes.weight_of_voters.Goals as goal

pub returns : goal.returns
returns g c =
    c.weight.ensures.value
    ∙ weighs c.args.node.now.committee c.voters.result (λ (voter : ℕ). is_some (g.C.Counted.vote_of c.args.counted.now voter)) c.voters.ensures
