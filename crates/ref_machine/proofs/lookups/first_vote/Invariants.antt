use Rattle.std.proofs.Common.{◌≡◌, drop}
use Rattle.ref_machine.proofs.lookups.first_vote.Given as goal
use Rattle.ref_machine.specs.Tables.{counted_in}

-- what is found from here on is what is found in all
abbrev pub invariant-loop-vote : goal.invariant-loop-vote
invariant-loop-vote l = counted_in (drop l.vote-index l.votes) l.round l.voter ≡ counted_in l.votes l.round l.voter
