use Rattle.std.proofs.Common.{◌≡◌, ◌-◌, ◌<◌, ◌∙◌, ℕ, Bool, ap, arith}
use Rattle.committee.specs.Sets.{has}
use Rattle.dag.specs.Graph.{reaches_in, is_parent_of}
use Rattle.dag.proofs.Walking.{walked}
use Rattle.dag.proofs.dag.Dag.reached.Goals as goal

pub loop-past-init : goal.loop-past-init
loop-past-init c other =
    let none : c.args.round ≡ c.args.round - 0 = omega arith in
    c.itself-authors.ensures other ∙ ap (λ (r : ℕ). reaches_in c.args.self.now c.args.round c.args.author.0 r other) none

pub loop-past-preserved : goal.loop-past-preserved
loop-past-preserved c other =
    let graph = c.args.self.now in
    let above : ℕ → Bool = has c.loop-past.authors in
    let within : c.loop-past.past < c.args.round = omega (arith, c.loop-past-test.true, c.number-top.ensures.value) in
    let level : c.round_of.result ≡ c.args.round - c.loop-past.past = c.round_of.ensures ∙ ap (λ (t : ℕ). t - c.loop-past.past) c.number-top.ensures.value in
    c.parents_of-authors.ensures.parents other
    ∙ ap (λ (r : ℕ). is_parent_of graph r (r - 1) above other) level
    ∙ walked graph c.limits_hold.ensures c.args.round c.args.author.0 c.loop-past.past above within c.loop-past.invariant other

pub returns : goal.returns
returns c member =
    let end : c.args.round - c.loop-past.past ≡ c.args.below = omega (arith, c.loop-past-test.false, c.loop-past.auto.past-end, c.number-top.ensures.value, c.number.ensures.value, c.requires) in
    c.loop-past.invariant member ∙ ap (λ (r : ℕ). reaches_in c.args.self.now c.args.round c.args.author.0 r member) end
