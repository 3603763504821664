use Rattle.std.proofs.Common.{◌≡◌, length}
use Rattle.sim_script.proofs.signing.votes_of.Given as goal

-- as many votes as voters so far
abbrev pub invariant-loop-voter : goal.invariant-loop-voter
invariant-loop-voter l = length l.votes ≡ l.voter-index
