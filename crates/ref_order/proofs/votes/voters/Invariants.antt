use Rattle.std.proofs.Common.{◌≡◌, ℕ}
use Rattle.std.specs.Prelude.{◌&&◌, nat_lt, is_some}
use Rattle.committee.specs.Sets.{has}
use Rattle.ref_order.proofs.votes.voters.Given as goal

-- the set has those so far who have a vote
abbrev pub invariant-loop-voter : goal.invariant-loop-voter
invariant-loop-voter g l = (m : ℕ) → has l.voted m ≡ (nat_lt m l.voter && is_some (g.C.Counted.vote_of l.counted m))
