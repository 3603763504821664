-- What holds of all that a stop may leave since an earlier moment, over several calls of a disk.
use Rattle.std.proofs.Common.{inl, inr, ⊎_elim, ℕ, List, arith}
use Rattle.diskmodel.specs.Disk.{GoesOn, AtEachMoment, Device}

module _ {D : Type 0} (device : Device D) where
  -- before the first call
  pub started : (old : D) (P : List ℕ → Type 0) → ((c : List ℕ) → device.outcome_since old (device.clock old) c → P c) → AtEachMoment device old old P
  started old P here = record { later = omega arith; each = here; before = λ t c le left. inl left }

  -- of which more holds
  pub weaker : (old new : D) (P Q : List ℕ → Type 0) → AtEachMoment device old new Q → ((c : List ℕ) → Q c → P c) → AtEachMoment device old new P
  weaker old new P Q at less = record {
    later = at.later;
    each = λ c left. less c (at.each c left);
    before = λ t c le left. ⊎_elim (λ before. inl before) (λ now. inr (less c now)) (at.before t c le left);
  }

  -- a run of calls more, of which each outcome has P too
  pub joins : (old mid new : D) (P Q : List ℕ → Type 0) → AtEachMoment device old mid P → AtEachMoment device mid new Q → ((c : List ℕ) → Q c → P c) → AtEachMoment device old new P
  joins old mid new P Q first second less = record {
    later = omega (arith, first.later, second.later);
    each = λ c left. ⊎_elim (λ before. first.each c before) (λ now. less c now) (second.before (device.clock old) c first.later left);
    before = λ t c le left. ⊎_elim (λ before. first.before t c le before) (λ now. inr (less c now)) (second.before t c (omega (arith, le, first.later)) left);
  }

  -- one call more, after which each outcome has P
  pub goes_on : (old mid new : D) (P outcome : List ℕ → Type 0) → AtEachMoment device old mid P → GoesOn (device.clock mid) (device.clock new)
      (device.outcome_since mid) (device.outcome_since new) outcome
      → ((c : List ℕ) → outcome c → P c) → AtEachMoment device old new P
  goes_on old mid new P outcome so_far time here = record {
    later = omega (arith, so_far.later, time.later);
    each = λ c left. ⊎_elim (λ before. so_far.each c before) (λ now. here c now) (time.nothing_else (device.clock old) c so_far.later left);
    before = λ t c le left. ⊎_elim (λ before. so_far.before t c le before) (λ now. inr (here c now)) (time.nothing_else t c (omega (arith, le, so_far.later)) left);
  }
