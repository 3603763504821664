use Rattle.std.proofs.Common.{◌≡◌, take}
use Rattle.std.specs.Prelude.{sum}
use Rattle.committee.proofs.stakes.total_of.Given as goal

-- the stakes so far are summed
abbrev pub invariant-loop-stake : goal.invariant-loop-stake
invariant-loop-stake l = l.total ≡ sum (take l.stake-index l.stakes)
