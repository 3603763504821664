use Rattle.std.proofs.Common.{◌≡◌, ℕ}
use Rattle.std.specs.Prelude.{nat_lt, is_some, ◌&&◌}
use Rattle.committee.specs.Sets.{has}
use Rattle.dag.specs.Graph.{slots_in}
use Rattle.dag.proofs.dag.Dag.authors_at.Given as goal

-- of the members so far those who have one
abbrev pub invariant-loop-author : goal.invariant-loop-author
invariant-loop-author l = (other : ℕ) → has l.authors other ≡ (nat_lt other l.author && is_some (slots_in l.self l.round other))
