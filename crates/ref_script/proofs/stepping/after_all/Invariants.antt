use Rattle.std.proofs.Common.{◌≡◌, drop}
use Rattle.ref_machine.specs.Tables.{state_of}
use Rattle.spec_machine.specs.After.{after_all}
use Rattle.spec_model.specs.Nodes.{node_view}
use Rattle.ref_script.proofs.stepping.after_all.Given as goal

-- what the events that are left make of the tables so far is what all make of the first
abbrev pub invariant-loop-event : goal.invariant-loop-event
invariant-loop-event g l =
    after_all (node_view g.S.Sign.scheme l.node) (state_of l.tables) (drop l.event-index l.events) ≡ after_all (node_view g.S.Sign.scheme l.node) (state_of l.fn.base) l.events
