use Rattle.std.proofs.Common.{◌≡◌, ◌-◌, ◌∙◌, ℕ, ap, arith}
use Rattle.committee.specs.Sets.{has}
use Rattle.dag.specs.Graph.{reaches_in, is_parent_of}
use Rattle.tusk.proofs.Downwards.{stepped}
use Rattle.tusk.proofs.support.two_down.Goals as goal

pub returns : goal.returns
returns c start author within so_far member =
    let graph = c.args.dag.now in
    let is = c.limits_hold.ensures in
    let round = c.args.round in
    let one : (other : ℕ) → has c.parents_of-below.result other ≡ reaches_in graph start author (round - 1) other =
    λ other. c.parents_of-below.ensures.parents other
    ∙ ap (λ (r : ℕ). is_parent_of graph r (r - 1) (has c.args.authors.now) other) c.round_of.ensures
    ∙ stepped graph is start author round (has c.args.authors.now) (omega (arith, c.requires.low)) within so_far other in
    let last : (round - 1) - 1 ≡ round - 2 = omega arith in
    c.parents_of.ensures.parents member
    ∙ ap (λ (r : ℕ). is_parent_of graph r (r - 1) (has c.parents_of-below.result) member) c.round_of-2.ensures
    ∙ stepped graph is start author (round - 1) (has c.parents_of-below.result) (omega (arith, c.requires.low)) (omega (arith, within)) one member
    ∙ ap (λ r. reaches_in graph start author r member) last
