use Rattle.std.proofs.Common.{◌≡◌, ◌++◌, drop}
use Rattle.spec_model.specs.Histories.{coins}
use Rattle.ref_order.proofs.histories.coins.Given as goal

-- those so far and those of the events that are left are those of all
abbrev pub invariant-loop-event : goal.invariant-loop-event
invariant-loop-event l = l.found.items ++ coins (drop l.event-index l.history) ≡ coins l.fn.history
