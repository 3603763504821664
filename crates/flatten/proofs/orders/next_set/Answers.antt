use Rattle.std.proofs.Common.{◌≡◌, ◌+◌, ◌-◌, ◌∙◌, ℕ, ap, arith}
use Rattle.std.specs.Prelude.{◌&&◌}
use Rattle.committee.specs.Sets.{has}
use Rattle.dag.specs.Graph.{is_parent_of}
use Rattle.flatten.proofs.orders.next_set.Goals as goal

pub returns-clause-set : goal.returns-clause-set
returns-clause-set c other =
    let graph = c.args.dag.now in
    let below = c.args.below in
    let level : (below + 1) - 1 ≡ below = omega arith in
    c.retain.ensures other
    ∙ ap (λ b. b && has c.free_at.result other) (c.parents_of-set.ensures.parents other
    ∙ ap (λ (r : ℕ). is_parent_of graph r (r - 1) (has c.args.above.now) other) c.round_of.ensures
    ∙ ap (λ r. is_parent_of graph (below + 1) r (has c.args.above.now) other) level)
    ∙ ap (λ b. is_parent_of graph (below + 1) below (has c.args.above.now) other && b) (c.free_at.ensures other)
