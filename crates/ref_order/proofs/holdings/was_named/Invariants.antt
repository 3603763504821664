use Rattle.std.proofs.Common.{◌≡◌, drop}
use Rattle.spec_model.specs.Holdings.{was_named}
use Rattle.spec_model.specs.Nodes.{node_view}
use Rattle.ref_order.proofs.holdings.was_named.Given as goal

-- what is found among the events that are left is what is found
abbrev pub invariant-loop-event : goal.invariant-loop-event
invariant-loop-event g l =
    was_named (node_view g.S.Sign.scheme l.node) (drop l.event-index l.history) l.digest
    ≡ was_named (node_view g.S.Sign.scheme l.node) l.history l.digest
