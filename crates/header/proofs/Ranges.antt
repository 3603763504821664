-- Numbers in a row, and what each is mapped to.
use Rattle.std.proofs.Common.{◌≡◌, ℕ, suc, ◌+◌, ◌-◌, ◌<◌, List, [], ◌∷◌, ◌++◌, ap, sym, ◌∙◌, arith, append_assoc, map}
use Rattle.std.specs.List.{range_with_len}

-- those from a number on: itself, and those from the next one on
pub range_from : (a n : ℕ) → a < n → range_with_len a (n - a) ≡ a ∷ range_with_len (a + 1) (n - (a + 1))
range_from a n h =
    let more : n - a ≡ suc (n - (a + 1)) = omega (arith, h) in
    ap (range_with_len a) more

-- what each of those from a number on is mapped to
pub mapped_more : {X : Type 0} (make : ℕ → X) (xs : List X) (a n : ℕ) → a < n
    → (xs ++ make a ∷ []) ++ map make (range_with_len (a + 1) (n - (a + 1))) ≡ xs ++ map make (range_with_len a (n - a))
mapped_more make xs a n h =
    append_assoc xs (make a ∷ []) (map make (range_with_len (a + 1) (n - (a + 1))))
    ∙ ap (λ numbers. xs ++ map make numbers) (sym (range_from a n h))
