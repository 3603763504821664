-- Sets by their places.
use Rattle.std.proofs.Common.{◌≡◌, ◌≢◌, ℕ, zero, suc, ◌+◌, ◌<◌, ◌≤◌, Bool, true, false, List, [], ◌∷◌, ◌++◌, length, get_or, slice_get, slice_set, take, Some, inl, inr, refl, ap, sym, ◌∙◌, arith}
use Rattle.std.proofs.Math.Seq.{take-append_seam}
use Rattle.std.specs.Prelude.{nat_le, nat_lt, ◌-◌, ◌==◌, ◌&&◌, ◌||◌}
use Rattle.std.specs.Option.{option_map_or}
use Rattle.std.proofs.lemmas.Bool.{cases_Bool, eqb-true, le-leb, lt-ltb}
use Rattle.spec_laws.proofs.Growing.{and_false}
use Rattle.dag.proofs.Steps.{or_false}
use Rattle.std.proofs.lemmas.Option.{slice_get-get_or, slice_get_past}
use Rattle.committee.specs.Sets.{has}
use Rattle.committee.specs.declared.sets.MemberSet.{MemberSet}
use Rattle.flatten.specs.Sets.{is_in}

slice_get-longer : {X : Type 0} (xs more : List X) (i : ℕ) → i < length xs → slice_get (xs ++ more) i ≡ slice_get xs i
slice_get-longer [] more i less = absurd (omega (arith, less))
slice_get-longer (x ∷ xs) more zero less = refl
slice_get-longer (x ∷ xs) more (suc i) less = slice_get-longer xs more i (omega (arith, less))

slice_get-pushed : {X : Type 0} (xs : List X) (x : X) (i : ℕ) → i ≡ length xs → slice_get (xs ++ x ∷ []) i ≡ Some x
slice_get-pushed [] x i at = ap (slice_get (x ∷ [])) at
slice_get-pushed (y ∷ ys) x zero at = absurd (omega (arith, at))
slice_get-pushed (y ∷ ys) x (suc i) at = slice_get-pushed ys x i (omega (arith, at))

-- sets with one more at their end
pub one_pushed : (sets : List MemberSet) (set : MemberSet) (count : ℕ) (test : ℕ → ℕ → Bool) → length sets ≡ count → ((place other : ℕ) → place < count → is_in sets place other ≡ test place other)
    → ((other : ℕ) → has set other ≡ test count other) → (place other : ℕ) → place < count + 1 → is_in (sets ++ set ∷ []) place other ≡ test place other
one_pushed sets set count test long before here place other within =
    elim (cases_Bool (place == count)) [
      | inl same ↦
          let at : place ≡ count = eqb-true place count same in
          let there : slice_get (sets ++ set ∷ []) place ≡ Some set = slice_get-pushed sets set place (at ∙ sym long) in
          ap (λ o. option_map_or (λ s. has s other) o false) there ∙ here other ∙ ap (λ k. test k other) (sym at)
      | inr apart ↦
          let less : place < count = grind (arith, apart, within) in
          ap (λ o. option_map_or (λ s. has s other) o false) (slice_get-longer sets (set ∷ []) place (omega (arith, less, long))) ∙ before place other less
    ]

set_here : {X : Type 0} (xs : List X) (p : ℕ) (x : X) → p < length xs → slice_get (slice_set xs p x) p ≡ Some x
set_here [] p x within = absurd (omega (arith, within))
set_here (y ∷ ys) zero x within = refl
set_here (y ∷ ys) (suc p) x within = set_here ys p x (omega (arith, within))

set_other : {X : Type 0} (xs : List X) (p k : ℕ) (x : X) → k ≢ p → slice_get (slice_set xs p x) k ≡ slice_get xs k
set_other [] p k x apart = refl
set_other (y ∷ ys) zero zero x apart = absurd (apart refl)
set_other (y ∷ ys) zero (suc k) x apart = refl
set_other (y ∷ ys) (suc p) zero x apart = refl
set_other (y ∷ ys) (suc p) (suc k) x apart = set_other ys p k x (λ same. apart (ap suc same))

-- a set of nobody more at the end
pub nobody_pushed : (sets : List MemberSet) (set : MemberSet) → ((a : ℕ) → has set a ≡ false) → (place author : ℕ) → is_in (sets ++ set ∷ []) place author ≡ is_in sets place author
nobody_pushed [] set none zero author = none author
nobody_pushed [] set none (suc place) author = refl
nobody_pushed (one ∷ sets) set none zero author = refl
nobody_pushed (one ∷ sets) set none (suc place) author = nobody_pushed sets set none place author

-- sets with others in those of the places so far, and in one more
pub one_united : (xs : List MemberSet) (first i : ℕ) (d new other : MemberSet) (before : ℕ → ℕ → Bool) (more : List MemberSet) → first + i < length xs
    → ((a : ℕ) → has new a ≡ (has (get_or xs (first + i) d) a || has other a)) → ((a : ℕ) → has other a ≡ is_in more i a)
    → ((k a : ℕ) → is_in xs k a ≡ (before k a || ((nat_le first k && nat_lt k (first + i)) && is_in more (k - first) a)))
    → (k a : ℕ) → is_in (slice_set xs (first + i) new) k a ≡ (before k a || ((nat_le first k && nat_lt k (first + (i + 1))) && is_in more (k - first) a))
one_united xs first i d new other before more within united others so_far k a =
    let p = first + i in
    elim (cases_Bool (k == p)) [
      | inl same ↦
          let at : k ≡ p = eqb-true k p same in
          let from : nat_le first p ≡ true = le-leb first p (omega arith) in
          let below : nat_lt p (first + (i + 1)) ≡ true = lt-ltb p (first + (i + 1)) (omega arith) in
          let level : nat_lt p (first + i) ≡ false = grind arith in
          let back : i ≡ p - first = omega arith in
          let was : has (get_or xs p d) a ≡ before p a =
          sym (ap (λ o. option_map_or (λ s. has s a) o false) (slice_get-get_or xs p d within)) ∙ so_far p a
          ∙ ap (λ b. before p a || ((nat_le first p && b) && is_in more (p - first) a)) level
          ∙ ap (λ b. before p a || (b && is_in more (p - first) a)) (and_false (nat_le first p)) ∙ or_false (before p a) in
          let here : is_in (slice_set xs p new) p a ≡ (before p a || ((nat_le first p && nat_lt p (first + (i + 1))) && is_in more (p - first) a)) =
          ap (λ o. option_map_or (λ s. has s a) o false) (set_here xs p new within) ∙ united a
          ∙ ap (λ b. b || has other a) was ∙ ap (λ b. before p a || b) (others a)
          ∙ ap (λ q. before p a || is_in more q a) back
          ∙ sym (ap (λ b. before p a || ((b && nat_lt p (first + (i + 1))) && is_in more (p - first) a)) from
          ∙ ap (λ b. before p a || (b && is_in more (p - first) a)) below) in
          ap (λ q. is_in (slice_set xs p new) q a) at ∙ here ∙ ap (λ q. before q a || ((nat_le first q && nat_lt q (first + (i + 1))) && is_in more (q - first) a)) (sym at)
      | inr differs ↦
          let apart : k ≢ p = λ e. (let bad : (k == p) ≡ true = grind (arith, e) in let no : true ≡ false = sym bad ∙ differs in absurd cc) in
          let alike : nat_lt k (first + i) ≡ nat_lt k (first + (i + 1)) = grind (arith, differs) in
          ap (λ o. option_map_or (λ s. has s a) o false) (set_other xs p k new apart) ∙ so_far k a ∙ ap (λ b. before k a || ((nat_le first k && b) && is_in more (k - first) a)) alike
    ]

-- nobody is in the set of a place past the end
pub past_end : (sets : List MemberSet) (place author : ℕ) → length sets ≤ place → is_in sets place author ≡ false
past_end sets place author past = ap (λ o. option_map_or (λ s. has s author) o false) (slice_get_past sets place past)

-- all of the others are put in
pub all_united : (first : ℕ) (more : List MemberSet) (k a : ℕ) → ((nat_le first k && nat_lt k (first + length more)) && is_in more (k - first) a) ≡ (nat_le first k && is_in more (k - first) a)
all_united first more k a =
    elim (cases_Bool (nat_lt k (first + length more))) [
      | inl within ↦
          ap (λ b. (nat_le first k && b) && is_in more (k - first) a) within ∙ ap (λ b. b && is_in more (k - first) a) (and_true (nat_le first k))
      | inr past ↦
          let none : is_in more (k - first) a ≡ false = past_end more (k - first) a (grind (arith, past)) in
          ap (λ b. (nat_le first k && nat_lt k (first + length more)) && b) none ∙ and_false (nat_le first k && nat_lt k (first + length more))
          ∙ sym (ap (λ b. nat_le first k && b) none ∙ and_false (nat_le first k))
    ]
  where
    and_true : (b : Bool) → (b && true) ≡ b
    and_true true = refl
    and_true false = refl

-- all of a list that was written through a slice
pub whole : {X : Type 0} (xs ys : List X) (n : ℕ) → n ≡ length xs → take n (xs ++ ys) ≡ xs
whole xs ys n all = ap (λ k. take k (xs ++ ys)) all ∙ take-append_seam xs ys
