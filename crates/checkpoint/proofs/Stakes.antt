-- Whether all stakes are 1, one by one.
use Rattle.std.proofs.Common.{◌≡◌, ℕ, zero, suc, ◌+◌, ◌≢◌, Bool, true, false, List, [], ◌∷◌, take, slice_get, Some, refl, sym, ap, ◌∙◌}
use Rattle.std.specs.Prelude.{◌==◌, ◌&&◌}
use Rattle.std.specs.List.{list_all}
use Rattle.std.proofs.lemmas.Bool.{and_from, eq-eqb, ne_eqb}
use Rattle.std.proofs.lemmas.List.Folds.{list_all-append}
use Rattle.std.proofs.lemmas.Option.{same_Some}
use Rattle.checkpoint.proofs.Copied.{one_more}

all_off : (stakes : List ℕ) (member stake : ℕ) → slice_get stakes member ≡ Some stake → (stake == 1) ≡ false → list_all (λ s. s == 1) stakes ≡ false
all_off [] member stake is off = absurd cc
all_off (first ∷ stakes) zero stake is off = let same = same_Some first stake is in rw same (rw off refl)
all_off (first ∷ stakes) (suc member) stake is off = let rest = all_off stakes member stake is off in rw rest (and_false (first == 1))
  where
    and_false : (b : Bool) → (b && false) ≡ false
    and_false true = refl
    and_false false = refl

pub one_off : (stakes : List ℕ) (member stake : ℕ) → Some stake ≡ slice_get stakes member → stake ≢ 1 → list_all (λ s. s == 1) stakes ≡ false
one_off stakes member stake is other = all_off stakes member stake (sym is) (ne_eqb stake 1 other)

pub ones_more : (stakes : List ℕ) (member stake : ℕ) → Some stake ≡ slice_get stakes member → stake ≡ 1 → list_all (λ s. s == 1) (take member stakes) ≡ true
    → list_all (λ s. s == 1) (take (member + 1) stakes) ≡ true
ones_more stakes member stake is one so_far =
    ap (list_all (λ s. s == 1)) (one_more stakes member stake (sym is)) ∙ list_all-append (λ s. s == 1) (take member stakes) (stake ∷ [])
    ∙ and_from _ _ so_far (and_from _ _ (eq-eqb stake 1 one) refl)
