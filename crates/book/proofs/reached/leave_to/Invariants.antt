use Rattle.std.proofs.Common.{◌≡◌, ◌≤◌, All, ℕ, deque_len}
use Rattle.book.specs.Queue.{length_at}
use Rattle.book.proofs.reached.leave_to.Given as goal

-- what was said of this number and of later ones, and of the tickets
abbrev pub invariant-loop-next : goal.invariant-loop-next
invariant-loop-next l = record {
  later : (later : ℕ) → l.count ≤ later → length_at later l.length l.reached.items ≡ length_at later l.fn.first l.fn.reached.items;
  tickets : (limit : ℕ) → All (λ r. r.ticket ≤ limit) l.fn.reached.items → All (λ r. r.ticket ≤ limit) l.reached.items;
}

abbrev pub decreases-loop-next : goal.decreases-loop-next
decreases-loop-next l = deque_len l.reached
