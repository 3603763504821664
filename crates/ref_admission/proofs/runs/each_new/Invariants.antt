use Rattle.std.proofs.Common.{◌≡◌, []}
use Rattle.spec_model.specs.Admitting.{each_new}
use Rattle.spec_model.specs.Nodes.{node_view}
use Rattle.ref_admission.proofs.runs.each_new.Given as goal

-- those that are left are each new where all are
abbrev pub invariant-loop-event : goal.invariant-loop-event
invariant-loop-event g l =
    each_new (node_view g.S.Sign.scheme l.node) l.history.items l.event-iterator.rest.items
    ≡ each_new (node_view g.S.Sign.scheme l.node) [] l.fn.events.items
