use Rattle.std.proofs.Common.{◌≡◌, ◌-◌, ℕ}
use Rattle.committee.specs.Sets.{has}
use Rattle.dag.specs.Graph.{reaches_in}
use Rattle.dag.proofs.dag.Dag.reached.Given as goal

-- whom the slot reaches so many rounds down
abbrev pub invariant-loop-past : goal.invariant-loop-past
invariant-loop-past l = (other : ℕ) → has l.authors other ≡ reaches_in l.self l.fn.round l.fn.author.0 (l.fn.round - l.past) other
