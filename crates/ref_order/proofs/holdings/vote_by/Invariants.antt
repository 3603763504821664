use Rattle.std.proofs.Common.{◌≡◌, drop, find}
use Rattle.spec_model.specs.Histories.{votes}
use Rattle.spec_model.specs.Holdings.{is_vote_on}
use Rattle.ref_order.proofs.holdings.vote_by.Given as goal

-- what is found among the events that are left is what is found
abbrev pub invariant-loop-event : goal.invariant-loop-event
invariant-loop-event l = find (is_vote_on l.header l.voter) (votes (drop l.event-index l.history)) ≡ find (is_vote_on l.header l.voter) (votes l.history)
