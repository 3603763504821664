use Rattle.std.proofs.Common.{◌-◌, ◌∙◌, ap}
use Rattle.dag.specs.Graph.{DagView, has_parent_in}
use Rattle.dag.proofs.Looking.{parents_kept}
use Rattle.dag.proofs.dag.Dag.has_parent.Goals as goal

pub returns : goal.returns
returns c =
    let inside = c.self.inside in
    let round = c.args.round in
    let author = c.args.author.0 in
    let parent = c.args.parent.0 in
    c.contains.ensures ∙ c.parents.ensures parent
    ∙ parents_kept inside.committee.now inside.floor inside.base inside.rows.items c.self.invariant round author parent
    ∙ ap (λ (g : DagView). has_parent_in g round author (round - 1) parent) c.self.view_is
