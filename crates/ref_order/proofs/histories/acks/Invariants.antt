use Rattle.std.proofs.Common.{◌≡◌, ◌++◌, drop}
use Rattle.spec_model.specs.Histories.{acks}
use Rattle.ref_order.proofs.histories.acks.Given as goal

-- those so far and those of the events that are left are those of all
abbrev pub invariant-loop-event : goal.invariant-loop-event
invariant-loop-event l = l.found.items ++ acks (drop l.event-index l.history) ≡ acks l.fn.history
