use Rattle.std.proofs.Common.{◌≡◌, ◌+◌, ℕ}
use Rattle.std.specs.Prelude.{nat_lt, ◌&&◌}
use Rattle.committee.specs.Sets.{has}
use Rattle.dag.specs.Graph.{has_parent_in}
use Rattle.dag.proofs.dag.Dag.supporters.Given as goal

-- of the members so far those who support it
abbrev pub invariant-loop-member : goal.invariant-loop-member
invariant-loop-member l = (other : ℕ) → has l.supporters other ≡ (nat_lt other l.member && has_parent_in l.self (l.round + 1) other l.round l.author.0)
