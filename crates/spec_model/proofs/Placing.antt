-- Batches that rise by digest, and one more in its place among them.
use Rattle.std.proofs.Common.{◌≡◌, ℕ, zero, suc, Bool, true, false, cond, List, [], ◌∷◌, ◌++◌, take, refl, ap, ◌∙◌}
use Rattle.std.proofs.Common.{Ordering, Less, Equal, Greater, IsTrue}
use Rattle.std.specs.Ordering.{is_lt, is_eq, nat_cmp, ordering_reverse}
use Rattle.std.specs.Cmp.Derive.{both_true}
use Rattle.std.specs.Cmp.Lexicographic.{slice_cmp}
use Rattle.std.proofs.lemmas.Cmp.{nat_list_cmp_total}
use Rattle.std.proofs.lemmas.Map.Text.{is_eq-slice_cmp}
use Rattle.wire.specs.References.{digest_before, batches_rise, placed}
use Rattle.wire.specs.Rising.{rises, follows}
use Rattle.wire.specs.declared.keys.Digest.{Digest}
use Rattle.wire.specs.declared.references.BatchReference.{BatchReference}
use Rattle.wire.proofs.RisingLemmas.{both-are}
use Rattle.spec_model.specs.Slots.{same_digest}

-- what is neither equal nor greater is less
third : (one other : Ordering) → one ≡ ordering_reverse other → is_eq one ≡ false → is_lt other ≡ false → is_lt one ≡ true
third one Less turned apart after = absurd cc
third one Equal turned apart after = absurd cc
third one Greater turned apart after = ap is_lt turned

-- a digest that another one neither comes before nor is comes before it
comes_before : (one other : Digest) → digest_before other one ≡ false → same_digest one other ≡ false → digest_before one other ≡ true
comes_before one other after apart =
    third (slice_cmp nat_cmp one.0 other.0) (slice_cmp nat_cmp other.0 one.0) (nat_list_cmp_total.antisymm one.0 other.0)
    (is_eq-slice_cmp one.0 other.0 ∙ apart) after

-- what holds of each of three choices holds of the one that two tests make
chosen : {X : Type 0} (P : X → Type 0) (a b : Bool) (x y z : X) → (a ≡ true → P x) → (b ≡ true → P y) → (a ≡ false → b ≡ false → P z)
    → P (cond a x (cond b y z))
chosen P true b x y z f g h = f refl
chosen P false true x y z f g h = g refl
chosen P false false x y z f g h = h refl refl

-- a list with a first element before the batch still rises with the batch in its place
placed_after : (first : BatchReference) (rest : List BatchReference) (batch : BatchReference) → IsTrue (batches_rise (first ∷ rest))
    → digest_before first.digest batch.digest ≡ true → IsTrue (batches_rise (first ∷ placed rest batch))
placed_after first [] batch rise before = both_true before refl
placed_after first (second ∷ rest) batch rise before =
    let parts = both-are (digest_before first.digest second.digest) (batches_rise (second ∷ rest)) rise in
    chosen (λ l. IsTrue (batches_rise (first ∷ l))) (digest_before batch.digest second.digest) (same_digest second.digest batch.digest)
    (batch ∷ second ∷ rest) (second ∷ rest) (second ∷ placed rest batch)
    (λ h. both_true before (both_true h parts.1))
    (λ h. rise)
    (λ after apart. both_true parts.0 (placed_after second rest batch parts.1 (comes_before second.digest batch.digest after apart)))

-- a list that rises still does with a batch in its place
pub placed-rises : (batches : List BatchReference) (batch : BatchReference) → IsTrue (batches_rise batches) → IsTrue (batches_rise (placed batches batch))
placed-rises [] batch rise = refl
placed-rises (first ∷ rest) batch rise =
    chosen (λ l. IsTrue (batches_rise l)) (digest_before batch.digest first.digest) (same_digest first.digest batch.digest)
    (batch ∷ first ∷ rest) (first ∷ rest) (first ∷ placed rest batch)
    (λ h. both_true h rise)
    (λ h. rise)
    (λ after apart. placed_after first rest batch rise (comes_before first.digest batch.digest after apart))

-- the first elements of a list that rises do
pub take-rises : {X : Type 0} (below : X → X → Bool) (n : ℕ) (xs : List X) → IsTrue (rises below xs) → IsTrue (rises below (take n xs))
take-rises below zero xs rise = refl
take-rises below (suc n) [] rise = refl
take-rises below (suc zero) (x ∷ rest) rise = refl
take-rises below (suc (suc n)) (x ∷ []) rise = refl
take-rises below (suc (suc n)) (x ∷ y ∷ rest) rise =
    let parts = both-are (below x y) (rises below (y ∷ rest)) rise in
    both_true parts.0 (take-rises below (suc n) (y ∷ rest) parts.1)

-- in a list that rises, what comes after the front may follow it
pub follows-front : {X : Type 0} (below : X → X → Bool) (front : List X) (x : X) (rest : List X) → IsTrue (rises below (front ++ x ∷ rest)) → IsTrue (follows (λ a. below a x) front)
follows-front below [] x rest rise = refl
follows-front below (y ∷ []) x rest rise = (both-are (below y x) (rises below (x ∷ rest)) rise).0
follows-front below (y ∷ z ∷ front) x rest rise = follows-front below (z ∷ front) x rest (both-are (below y z) (rises below (z ∷ (front ++ x ∷ rest))) rise).1
