use Rattle.std.proofs.Common.{◌≡◌}
use Rattle.committee.specs.Sets.{has}
use Rattle.committee.proofs.Weights.{weight_below}
use Rattle.committee.proofs.committee.Committee.weight.Given as goal

-- the stakes so far of the members in the set are summed
abbrev pub invariant-loop-i : goal.invariant-loop-i
invariant-loop-i l = l.weight ≡ weight_below l.self.stakes (has l.members) l.i
