use Rattle.std.proofs.Common.{◌-◌, ◌∙◌, ℕ, ap}
use Rattle.dag.specs.Graph.{DagView, has_parent_in}
use Rattle.dag.specs.Kept.{graph_of}
use Rattle.dag.proofs.Looking.{parents_kept}
use Rattle.dag.proofs.dag.Dag.parents.Goals as goal

pub returns : goal.returns
returns c member =
    let inside = c.self.inside in
    let author = c.args.author.0 in
    let charter = inside.committee.now in
    let rows = inside.rows.items in
    c.parents.ensures member
    ∙ parents_kept charter inside.floor inside.base rows c.self.invariant c.number.result author member
    ∙ ap (λ (r : ℕ). has_parent_in (graph_of charter inside.floor inside.base rows) r author (r - 1) member) c.number.ensures.value
    ∙ ap (λ (g : DagView). has_parent_in g c.args.round author (c.args.round - 1) member) c.self.view_is
