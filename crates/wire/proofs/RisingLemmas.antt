-- A list that rises, and one more element at its end.
use Rattle.std.proofs.Common.{◌≡◌, ℕ, suc, ◌-◌, ◌<◌, Bool, true, false, List, [], ◌∷◌, ◌++◌, length, get_or, refl, sym, ap, ◌∙◌, arith}
use Rattle.std.specs.Prelude.{◌&&◌, IsTrue, slice_get, Some}
use Rattle.std.proofs.lemmas.Option.{slice_get_within, get_or_from_slice_get}
use Rattle.std.specs.Cmp.Derive.{both_true}
use Rattle.wire.specs.Rising.{rises, follows}

last_of-cons : {X : Type 0} (x y : X) (rest : List X) (d : X) → get_or (y ∷ rest) (length (y ∷ rest) - 1) d ≡ get_or (x ∷ y ∷ rest) (length (x ∷ y ∷ rest) - 1) d
last_of-cons x y rest d =
    let one : suc (length rest) - 1 ≡ length rest = omega arith in
    let two : suc (suc (length rest)) - 1 ≡ suc (length rest) = omega arith in
    ap (λ (k : ℕ). get_or (y ∷ rest) k d) one ∙ sym (ap (λ (k : ℕ). get_or (x ∷ y ∷ rest) k d) two)

last_reports : {X : Type 0} (before : X → Bool) (xs : List X) (d : X) → 0 < length xs → follows before xs ≡ before (get_or xs (length xs - 1) d)
last_reports before [] d h = absurd (omega arith)
last_reports before (x ∷ []) d h = refl
last_reports before (x ∷ y ∷ rest) d h = last_reports before (y ∷ rest) d (omega arith) ∙ ap before (last_of-cons x y rest d)

-- the last element tells what may follow
pub follows-last : {X : Type 0} (before : X → Bool) (xs : List X) (x : X) → slice_get xs (length xs - 1) ≡ Some x → follows before xs ≡ before x
follows-last before xs x e =
    let within : length xs - 1 < length xs = slice_get_within xs (length xs - 1) x e in
    last_reports before xs x (omega arith) ∙ ap before (get_or_from_slice_get xs (length xs - 1) x x e)

-- what both is true, each is
pub both-are : (a b : Bool) → (a && b) ≡ true → (a ≡ true) × (b ≡ true)
both-are true b h = (refl, h)
both-are false b h = absurd cc

-- a list that rises still does with one more element that may follow
pub rises-push : {X : Type 0} (below : X → X → Bool) (xs : List X) (x : X) → IsTrue (rises below xs) → IsTrue (follows (λ a. below a x) xs) → IsTrue (rises below (xs ++ x ∷ []))
rises-push below [] x h f = refl
rises-push below (y ∷ []) x h f = rw f refl
rises-push below (y ∷ z ∷ rest) x h f =
    let parts = both-are (below y z) (rises below (z ∷ rest)) h in
    both_true parts.0 (rises-push below (z ∷ rest) x parts.1 f)
