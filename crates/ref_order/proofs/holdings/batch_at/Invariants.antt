use Rattle.std.proofs.Common.{◌≡◌, drop}
use Rattle.spec_model.specs.Holdings.{batch_at}
use Rattle.ref_order.proofs.holdings.batch_at.Given as goal

-- what is found among the events that are left is what is found
abbrev pub invariant-loop-event : goal.invariant-loop-event
invariant-loop-event l = batch_at (drop l.event-index l.history) l.digest ≡ batch_at l.history l.digest
