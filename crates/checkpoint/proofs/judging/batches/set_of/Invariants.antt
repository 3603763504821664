use Rattle.std.proofs.Common.{◌≡◌, ℕ, take}
use Rattle.std.specs.Prelude.{◌==◌}
use Rattle.std.specs.List.{list_any}
use Rattle.committee.specs.Sets.{has}
use Rattle.checkpoint.proofs.judging.batches.set_of.Given as goal

-- the set has those so far
abbrev pub invariant-loop-member : goal.invariant-loop-member
invariant-loop-member l = (m : ℕ) → has l.set m ≡ list_any (λ one. one == m) (take l.member-index l.members)
