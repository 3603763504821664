-- A list that is copied place by place.
use Rattle.std.proofs.Common.{◌≡◌, ℕ, zero, suc, ◌+◌, List, [], ◌∷◌, ◌++◌, Some, refl, ap, ◌∙◌, add-one, take, slice_get}
use Rattle.std.specs.Map.{values_of}
use Rattle.std.proofs.lemmas.Option.{same_Some, none-some}

one_suc : {X : Type 0} (xs : List X) (n : ℕ) (x : X) → slice_get xs n ≡ Some x → take (suc n) xs ≡ take n xs ++ x ∷ []
one_suc [] n x is = absurd (none-some x is)
one_suc (y ∷ ys) zero x is = ap (λ z. z ∷ []) (same_Some y x is)
one_suc (y ∷ ys) (suc n) x is = ap (λ l. y ∷ l) (one_suc ys n x is)

-- with what stands at the next place
pub one_more : {X : Type 0} (xs : List X) (n : ℕ) (x : X) → slice_get xs n ≡ Some x → take (n + 1) xs ≡ take n xs ++ x ∷ []
one_more xs n x is = ap (λ m. take m xs) (add-one n) ∙ one_suc xs n x is

-- the values with one entry more
pub values_more : {K V : Type 0} (entries : List (K × V)) (one : K × V) → values_of (entries ++ one ∷ []) ≡ values_of entries ++ one.1 ∷ []
values_more [] one = refl
values_more (e ∷ entries) one = ap (λ l. e.1 ∷ l) (values_more entries one)
