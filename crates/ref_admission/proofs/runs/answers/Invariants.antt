use Rattle.std.proofs.Common.{◌≡◌, [], ◌++◌}
use Rattle.spec_model.specs.Admitting.{answers}
use Rattle.spec_model.specs.Nodes.{node_view}
use Rattle.ref_admission.proofs.runs.answers.Given as goal

-- the answers so far and those to the events that are left are those to all
abbrev pub invariant-loop-event : goal.invariant-loop-event
invariant-loop-event g l =
    l.found.items ++ answers (node_view g.S.Sign.scheme l.node) l.history.items l.event-iterator.rest.items
    ≡ answers (node_view g.S.Sign.scheme l.node) [] l.fn.events.items
