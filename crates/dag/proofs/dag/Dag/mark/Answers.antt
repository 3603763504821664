use Rattle.std.proofs.Common.{◌≡◌, ◌-◌, ◌≤◌, ◌∙◌, ap, sym, subst, arith}
use Rattle.committee.specs.Sets.{has}
use Rattle.dag.specs.Changes.{IsMarked}
use Rattle.dag.specs.Graph.{DagView}
use Rattle.dag.specs.Kept.{Rows, graph_of, IsKept}
use Rattle.dag.specs.Rows.{marked_rows}
use Rattle.dag.proofs.Changing.{mark_kept_with, mark_seen}
use Rattle.dag.proofs.dag.Dag.mark.Goals as goal

pub invariant_of-self : goal.invariant_of-self
invariant_of-self c =
    let inside = c.self.inside in
    let charter = inside.committee.now in
    let rows = inside.rows.items in
    let authors = has c.args.authors.now in
    let above : inside.floor ≤ c.args.round = omega (arith, c.if-number-floor.false, c.number-number.ensures.value, c.number-floor.ensures.value) in
    let all : c.mark.new.rows.items ≡ marked_rows rows (c.args.round - inside.floor) authors =
    c.mark.ensures ∙ ap (λ k. marked_rows rows k authors) (omega (arith, c.number-number.ensures.value, c.number-floor.ensures.value)) in
    subst (λ (l : Rows). IsKept charter inside.floor inside.base l) (sym all) (mark_kept_with charter inside.floor inside.base rows c.args.round authors c.self.invariant above)

pub returns : goal.returns
returns c =
    let inside = c.self.inside in
    let charter = inside.committee.now in
    let rows = inside.rows.items in
    let authors = has c.args.authors.now in
    let above : inside.floor ≤ c.args.round = omega (arith, c.if-number-floor.false, c.number-number.ensures.value, c.number-floor.ensures.value) in
    let all : c.mark.new.rows.items ≡ marked_rows rows (c.args.round - inside.floor) authors =
    c.mark.ensures ∙ ap (λ k. marked_rows rows k authors) (omega (arith, c.number-number.ensures.value, c.number-floor.ensures.value)) in
    let graph : Rows → DagView = graph_of charter inside.floor inside.base in
    let seen : IsMarked (graph rows) (graph c.mark.new.rows.items) c.args.round authors =
    subst (λ (l : Rows). IsMarked (graph rows) (graph l) c.args.round authors) (sym all) (mark_seen charter inside.floor inside.base rows c.args.round authors above) in
    subst (λ (g : DagView). IsMarked g (graph c.mark.new.rows.items) c.args.round authors) c.self.view_is seen
