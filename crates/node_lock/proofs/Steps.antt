-- Each step of a lock keeps its rule.
use Rattle.std.proofs.Common.{◌≡◌, ◌≢◌, ℕ, ◌==◌, [], ◌∷◌, sym, refl, ap, ◌∙◌, subst, arith, eq-eqb, ne_eqb, Option, Some}
use Rattle.std.specs.Prelude.{MatchBool, slice_index, slice_set}
use prog.Atomic.{either}
use lib.ListN.{get_elem?}
use mathlib.Core.Logic.{dite}
use mathlib.Core.Option as slot
use native.Mathlib.Decide.{ℕ_discrete}
use Rattle.atomic_table.specs.Table.{Me, keeps, takes, gives, put_back, Allows}
use Rattle.node_lock.specs.Home.{IsKept, Holds, Takes, Gives}

module _ {T V : Type 0} (fits : T → Type 0) where
  -- the value is taken where the word is 0, if it is 0 no more after the step
  pub may_take : (known : T → Type 0) (slots id : ℕ) (me : Me (Option T) V) (f : ℕ → ℕ) → ((n : ℕ) → f n ≢ 0) → ((value : T) → fits value → known value) → me.1 ≡ []
      → Allows (IsKept fits) slots id me 0 f (λ found after. Takes known found me after)
  may_take known slots id me f taken reports empty s kept size at wide =
      let found : slice_index s.words 0 ≡ kept.word = ap (λ ws. slice_index ws 0) kept.words in
      let words : slice_set s.words 0 (f (slice_index s.words 0)) ≡ f kept.word ∷ [] = ap (λ ws. slice_set ws 0 (f (slice_index ws 0))) kept.words in
      dite (ℕ_discrete kept.word 0)
      (λ free. let home = kept.home free in (
        me.0,
        takes 0 (Some home.0),
        ap (λ hs. get_elem? hs 0) home.1,
        record { word = f kept.word; words = words; home = λ e. absurd (taken kept.word e); out = λ _. ap (λ hs. slice_set hs 0 slot.none) home.1 },
        subst (λ n. Takes known n me (me.0, (0, Some home.0) ∷ me.1)) (sym (found ∙ free)) (home.0, ap (λ c. (0, Some home.0) ∷ c) empty, reports home.0 home.2),
      ))
      (λ held. (
        me.0,
        keeps,
        tt,
        record { word = f kept.word; words = words; home = λ e. absurd (taken kept.word e); out = λ _. kept.out held },
        subst (λ b. MatchBool b (Holds known me) (me.1 ≡ me.1)) (sym (ne_eqb _ _ (λ e. held (sym found ∙ e)))) refl,
      ))

  -- a value that fits comes home
  pub may_give : (slots id : ℕ) (me : Me (Option T) V) (value : T) → me.1 ≡ (0, Some value) ∷ [] → fits value
      → Allows (IsKept fits) slots id me 0 (λ _. 0) (λ _ after. Gives me after)
  may_give slots id me value has ok s kept size at wide =
      let home : put_back s.homes me.1 ≡ slot.some (Some value) ∷ [] =
      ap (λ c. put_back s.homes c) has ∙ dite (ℕ_discrete kept.word 0)
      (λ free. ap (λ hs. slice_set hs 0 (slot.some (Some value))) (kept.home free).1)
      (λ held. ap (λ hs. slice_set hs 0 (slot.some (Some value))) (kept.out held)) in
      (me.0, gives, tt, record { word = 0; words = ap (λ ws. slice_set ws 0 0) kept.words; home = λ _. (value, home, ok); out = λ ne. absurd (ne refl) }, refl)

-- a word that becomes 1 where it was 0 isn't 0 then
pub marked : (n : ℕ) → either (n == 0) 1 n ≢ 0
marked n = dite (ℕ_discrete n 0) (λ free. subst (λ b. either b 1 n ≢ 0) (sym (eq-eqb n 0 free)) (λ is. omega arith)) (λ held. subst (λ b. either b 1 n ≢ 0) (sym (ne_eqb n 0 held)) held)
