use Rattle.std.proofs.Common.{◌≡◌, drop}
use Rattle.spec_model.specs.Holdings.{voted_header}
use Rattle.ref_order.proofs.holdings.voted_header.Given as goal

-- what is found among the events that are left is what is found
abbrev pub invariant-loop-event : goal.invariant-loop-event
invariant-loop-event l = voted_header (drop l.event-index l.history) l.round l.author ≡ voted_header l.history l.round l.author
