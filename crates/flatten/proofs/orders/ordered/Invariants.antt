use Rattle.std.proofs.Common.{◌≡◌, ◌+◌, ◌-◌, ◌*◌, ◌<◌, ◌≤◌, ℕ, Bool, length}
use Rattle.std.specs.Prelude.{sum_by}
use Rattle.std.specs.List.{range_with_len}
use Rattle.committee.specs.Sets.{has}
use Rattle.dag.specs.Graph.{references_of}
use Rattle.dag.specs.declared.reads.TheConstants.{MAX_ROUND_REFERENCES}
use Rattle.flatten.specs.Sets.{is_in, is_free, orders_in, AreClosed}
use Rattle.flatten.proofs.orders.ordered.Given as goal

-- the sets so far, of which the last one is at hand, and what was read, where who is free is closed
abbrev pub invariant-loop-place : goal.invariant-loop-place
invariant-loop-place l =
    let free : ℕ → ℕ → Bool = is_free l.dag l.top l.taken in
    let orders : ℕ → ℕ → Bool = orders_in l.dag l.fn.leader.0 l.fn.leader.1.0 free in
    (length l.sets.items ≡ l.place) × (l.reads ≤ MAX_ROUND_REFERENCES * (l.place - 1))
    × (AreClosed l.dag (l.fn.leader.0 + 1 - l.count) l.fn.leader.0 free
    → ((other : ℕ) → has l.set other ≡ orders (l.fn.leader.0 - (l.place - 1)) other)
    × ((place other : ℕ) → place < l.place → is_in l.sets.items place other ≡ orders (l.fn.leader.0 - place) other)
    × (l.reads ≡ sum_by (λ r. references_of l.dag r (orders r)) (range_with_len (l.fn.leader.0 + 2 - l.place) (l.place - 1))))
