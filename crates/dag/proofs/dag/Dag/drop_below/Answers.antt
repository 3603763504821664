use Rattle.std.proofs.Common.{◌≡◌, ◌-◌, ◌<◌, ◌∙◌, ap, sym, subst, drop, arith}
use Rattle.dag.specs.Changes.{IsDropped}
use Rattle.dag.specs.Graph.{DagView}
use Rattle.dag.specs.Kept.{Rows, graph_of, IsKept}
use Rattle.dag.proofs.Dropping.{kept_from, seen_from}
use Rattle.dag.proofs.dag.Dag.drop_below.Goals as goal

pub invariant_of-self : goal.invariant_of-self
invariant_of-self c =
    let inside = c.self.inside in
    let charter = inside.committee.now in
    let rows = inside.rows.items in
    let round = c.args.round in
    let higher : inside.floor < round = omega (arith, c.if-number-floor.false, c.number-number.ensures.value, c.number-floor.ensures.value) in
    let within : round < inside.base = omega (arith, c.if-base-number.false, c.number-number.ensures.value, c.number-base.ensures.value) in
    let all : c.drop_front.new.rows.items ≡ drop (round - inside.floor) rows =
    c.drop_front.ensures ∙ ap (λ k. drop k rows) (omega (arith, c.number-number.ensures.value, c.number-floor.ensures.value)) in
    subst (λ (l : Rows). IsKept charter round inside.base l) (sym all) (kept_from charter inside.floor round inside.base rows c.self.invariant higher within)

pub returns-clause-below : goal.returns-clause-below
returns-clause-below c _ =
    let inside = c.self.inside in
    let charter = inside.committee.now in
    let rows = inside.rows.items in
    let round = c.args.round in
    let higher : inside.floor < round = omega (arith, c.if-number-floor.false, c.number-number.ensures.value, c.number-floor.ensures.value) in
    let all : c.drop_front.new.rows.items ≡ drop (round - inside.floor) rows =
    c.drop_front.ensures ∙ ap (λ k. drop k rows) (omega (arith, c.number-number.ensures.value, c.number-floor.ensures.value)) in
    let graph : Rows → DagView = graph_of charter round inside.base in
    let seen : IsDropped (graph_of charter inside.floor inside.base rows) (graph c.drop_front.new.rows.items) round =
    subst (λ (l : Rows). IsDropped (graph_of charter inside.floor inside.base rows) (graph l) round) (sym all) (seen_from charter inside.floor round inside.base rows higher) in
    subst (λ (g : DagView). IsDropped g (graph c.drop_front.new.rows.items) round) c.self.view_is seen
