-- Numbers in a row, and what is made of them.
use Rattle.std.proofs.Common.{◌≡◌, ℕ, suc, ◌+◌, ◌-◌, ◌<◌, List, [], ◌∷◌, ◌++◌, Option, Some, None, ap, sym, ◌∙◌, arith, append_assoc}
use Rattle.std.specs.List.{range_with_len, filter_map, cons_option, flat_map}
use Rattle.header.proofs.Ranges.{range_from}

-- what is made of those from a number on, where something is made of it
pub one_more : {X : Type 0} (make : ℕ → Option X) (xs : List X) (x : X) (a n : ℕ) → a < n → make a ≡ Some x
    → (xs ++ x ∷ []) ++ filter_map make (range_with_len (a + 1) (n - (a + 1))) ≡ xs ++ filter_map make (range_with_len a (n - a))
one_more make xs x a n h made =
    append_assoc xs (x ∷ []) (filter_map make (range_with_len (a + 1) (n - (a + 1))))
    ∙ ap (λ o. xs ++ cons_option o (filter_map make (range_with_len (a + 1) (n - (a + 1))))) (sym made)
    ∙ ap (λ numbers. xs ++ filter_map make numbers) (sym (range_from a n h))

-- and where nothing is
pub none_more : {X : Type 0} (make : ℕ → Option X) (xs : List X) (a n : ℕ) → a < n → make a ≡ None
    → xs ++ filter_map make (range_with_len (a + 1) (n - (a + 1))) ≡ xs ++ filter_map make (range_with_len a (n - a))
none_more make xs a n h made =
    ap (λ o. xs ++ cons_option o (filter_map make (range_with_len (a + 1) (n - (a + 1))))) (sym made)
    ∙ ap (λ numbers. xs ++ filter_map make numbers) (sym (range_from a n h))

-- what is made of the numbers above one up to another
pub round_more : {X : Type 0} (make : ℕ → List X) (xs : List X) (low high : ℕ) → low < high
    → (xs ++ make (low + 1)) ++ flat_map make (range_with_len (low + 1 + 1) (high - (low + 1))) ≡ xs ++ flat_map make (range_with_len (low + 1) (high - low))
round_more make xs low high h =
    let more : high - low ≡ suc (high - (low + 1)) = omega (arith, h) in
    append_assoc xs (make (low + 1)) (flat_map make (range_with_len (low + 1 + 1) (high - (low + 1))))
    ∙ ap (λ n. xs ++ flat_map make (range_with_len (low + 1) n)) (sym more)
