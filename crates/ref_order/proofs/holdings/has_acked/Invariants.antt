use Rattle.std.proofs.Common.{◌≡◌, drop}
use Rattle.spec_model.specs.Holdings.{has_acked}
use Rattle.ref_order.proofs.holdings.has_acked.Given as goal

-- what is found among the events that are left is what is found
abbrev pub invariant-loop-event : goal.invariant-loop-event
invariant-loop-event l = has_acked (drop l.event-index l.history) l.digest l.member ≡ has_acked l.history l.digest l.member
