use Rattle.std.proofs.Common.{subst}
use Rattle.dag.specs.Graph.{IsGraph}
use Rattle.dag.proofs.Looking.{is_graph}
use Rattle.dag.proofs.dag.Dag.limits_hold.Goals as goal

pub returns : goal.returns
returns c =
    let inside = c.self.inside in
    subst IsGraph c.self.view_is (is_graph inside.committee.now inside.floor inside.base inside.rows.items c.self.invariant)
