use Rattle.std.proofs.Common.{◌≡◌, ◌+◌, ◌-◌, ℕ}
use Rattle.std.specs.Prelude.{nat_le, nat_lt, ◌&&◌, ◌||◌}
use Rattle.flatten.specs.Sets.{is_in}
use Rattle.flatten.proofs.sets.unite.Given as goal

-- so many sets are put in
abbrev pub invariant-loop-i : goal.invariant-loop-i
invariant-loop-i l = (k a : ℕ) → is_in l.sets k a ≡ (is_in l.initial.sets k a || ((nat_le l.first k && nat_lt k (l.first + l.i)) && is_in l.more (k - l.first) a))
