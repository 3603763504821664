-- What members have, one member after the other.
use Rattle.std.proofs.Common.{◌≡◌, ℕ, zero, suc, ◌+◌, List, [], ◌∷◌, ◌++◌, take, Some, ap, ◌∙◌, arith}
use Rattle.std.specs.Prelude.{slice_get}
use Rattle.std.proofs.lemmas.Option.{same_Some}

member_suc : {X : Type 0} (xs : List X) (m : ℕ) (x : X) → slice_get xs m ≡ Some x → take (suc m) xs ≡ take m xs ++ x ∷ []
member_suc [] m x is = absurd (cc)
member_suc (first ∷ xs) zero x is = ap (λ y. y ∷ []) (same_Some first x is)
member_suc (first ∷ xs) (suc m) x is = ap (λ l. first ∷ l) (member_suc xs m x is)

pub member_more : {X : Type 0} (xs : List X) (m : ℕ) (x : X) → slice_get xs m ≡ Some x → take (m + 1) xs ≡ take m xs ++ x ∷ []
member_more xs m x is = let same : m + 1 ≡ suc m = omega arith in ap (λ n. take n xs) same ∙ member_suc xs m x is
