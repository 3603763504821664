use Rattle.std.proofs.Common.{◌≡◌, ◌++◌, drop, filter_map}
use Rattle.spec_model.specs.Histories.{headers}
use Rattle.spec_model.specs.Holdings.{completed}
use Rattle.spec_model.specs.Nodes.{node_view}
use Rattle.ref_order.proofs.certificates.own.Given as goal

-- those so far and those of the headers that are left are those of all
abbrev pub invariant-loop-header : goal.invariant-loop-header
invariant-loop-header g l =
    l.found.items ++ filter_map (completed (node_view g.S.Sign.scheme l.node) l.history) (drop l.header-index l.header-items)
    ≡ filter_map (completed (node_view g.S.Sign.scheme l.node) l.history) (headers l.history)
