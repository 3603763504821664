-- What is made of the elements of a list from a place on.
use Rattle.std.proofs.Common.{◌≡◌, ℕ, suc, ◌+◌, ◌<◌, Bool, true, false, List, [], ◌∷◌, ◌++◌, length, get_or, drop, filter, flat_map, fold, map, Option, Some, None, ap, sym, ◌∙◌, add-one, append_assoc}
use Rattle.std.proofs.Math.Seq.{drop-cons}
use Rattle.std.specs.List.{filter_map, cons_option}
use Rattle.std.specs.Prelude.{cond, max}

-- those from a place on: the one there, and those from the next place on
pub items_from : {X : Type 0} (xs : List X) (x : X) (i : ℕ) → i < length xs → x ≡ get_or xs i x → drop i xs ≡ x ∷ drop (i + 1) xs
items_from xs x i less at = rw add-one (drop-cons xs i x less ∙ ap (λ y. y ∷ drop (suc i) xs) (sym at))

-- the lists that are made of them
pub joined_more : {X Y : Type 0} (make : X → List Y) (ys : List Y) (xs : List X) (x : X) (i : ℕ) → i < length xs → x ≡ get_or xs i x
    → (ys ++ make x) ++ flat_map make (drop (i + 1) xs) ≡ ys ++ flat_map make (drop i xs)
joined_more make ys xs x i less at =
    append_assoc ys (make x) (flat_map make (drop (i + 1) xs))
    ∙ ap (λ items. ys ++ flat_map make items) (sym (items_from xs x i less at))

-- what is made of those that pass a test, where this one does
pub passed_more : {X Y : Type 0} (test : X → Bool) (make : X → Y) (ys : List Y) (xs : List X) (x : X) (i : ℕ) → i < length xs → x ≡ get_or xs i x → test x ≡ true
    → (ys ++ make x ∷ []) ++ map make (filter test (drop (i + 1) xs)) ≡ ys ++ map make (filter test (drop i xs))
passed_more test make ys xs x i less at passes =
    append_assoc ys (make x ∷ []) (map make (filter test (drop (i + 1) xs)))
    ∙ ap (λ b. ys ++ map make (cond b (x ∷ filter test (drop (i + 1) xs)) (filter test (drop (i + 1) xs)))) (sym passes)
    ∙ ap (λ items. ys ++ map make (filter test items)) (sym (items_from xs x i less at))

-- and where it doesn't
pub failed_more : {X Y : Type 0} (test : X → Bool) (make : X → Y) (ys : List Y) (xs : List X) (x : X) (i : ℕ) → i < length xs → x ≡ get_or xs i x → test x ≡ false
    → ys ++ map make (filter test (drop (i + 1) xs)) ≡ ys ++ map make (filter test (drop i xs))
failed_more test make ys xs x i less at fails =
    ap (λ b. ys ++ map make (cond b (x ∷ filter test (drop (i + 1) xs)) (filter test (drop (i + 1) xs)))) (sym fails)
    ∙ ap (λ items. ys ++ map make (filter test items)) (sym (items_from xs x i less at))

-- what those are taken together to, of which something is made here
pub folded_more : {X Y Z : Type 0} (step : Z → Y → Z) (make : X → Option Y) (so_far : Z) (xs : List X) (x : X) (y : Y) (i : ℕ) → i < length xs → x ≡ get_or xs i x → make x ≡ Some y
    → fold step (step so_far y) (filter_map make (drop (i + 1) xs)) ≡ fold step so_far (filter_map make (drop i xs))
folded_more step make so_far xs x y i less at made =
    ap (λ o. fold step so_far (cons_option o (filter_map make (drop (i + 1) xs)))) (sym made)
    ∙ ap (λ items. fold step so_far (filter_map make items)) (sym (items_from xs x i less at))

-- and of which nothing is
pub folded_same : {X Y Z : Type 0} (step : Z → Y → Z) (make : X → Option Y) (so_far : Z) (xs : List X) (x : X) (i : ℕ) → i < length xs → x ≡ get_or xs i x → make x ≡ None
    → fold step so_far (filter_map make (drop (i + 1) xs)) ≡ fold step so_far (filter_map make (drop i xs))
folded_same step make so_far xs x i less at made =
    ap (λ o. fold step so_far (cons_option o (filter_map make (drop (i + 1) xs)))) (sym made)
    ∙ ap (λ items. fold step so_far (filter_map make items)) (sym (items_from xs x i less at))

-- what is made of those, where something is made of this one
pub made_more : {X Y : Type 0} (make : X → Option Y) (ys : List Y) (xs : List X) (x : X) (y : Y) (i : ℕ) → i < length xs → x ≡ get_or xs i x → make x ≡ Some y
    → (ys ++ y ∷ []) ++ filter_map make (drop (i + 1) xs) ≡ ys ++ filter_map make (drop i xs)
made_more make ys xs x y i less at made =
    append_assoc ys (y ∷ []) (filter_map make (drop (i + 1) xs))
    ∙ ap (λ o. ys ++ cons_option o (filter_map make (drop (i + 1) xs))) (sym made)
    ∙ ap (λ items. ys ++ filter_map make items) (sym (items_from xs x i less at))

-- and where nothing is
pub unmade_more : {X Y : Type 0} (make : X → Option Y) (ys : List Y) (xs : List X) (x : X) (i : ℕ) → i < length xs → x ≡ get_or xs i x → make x ≡ None
    → ys ++ filter_map make (drop (i + 1) xs) ≡ ys ++ filter_map make (drop i xs)
unmade_more make ys xs x i less at made =
    ap (λ o. ys ++ cons_option o (filter_map make (drop (i + 1) xs))) (sym made)
    ∙ ap (λ items. ys ++ filter_map make items) (sym (items_from xs x i less at))

-- the greatest number of those that pass a test, where this one does
pub greatest_more : {X : Type 0} (test : ℕ → Bool) (number : X → ℕ) (so_far : ℕ) (xs : List X) (x : X) (i : ℕ) → i < length xs → x ≡ get_or xs i x → test (number x) ≡ true
    → fold max (max so_far (number x)) (filter test (map number (drop (i + 1) xs))) ≡ fold max so_far (filter test (map number (drop i xs)))
greatest_more test number so_far xs x i less at passes =
    ap (λ b. fold max so_far (cond b (number x ∷ filter test (map number (drop (i + 1) xs))) (filter test (map number (drop (i + 1) xs))))) (sym passes)
    ∙ ap (λ items. fold max so_far (filter test (map number items))) (sym (items_from xs x i less at))

-- and where it doesn't
pub greatest_same : {X : Type 0} (test : ℕ → Bool) (number : X → ℕ) (so_far : ℕ) (xs : List X) (x : X) (i : ℕ) → i < length xs → x ≡ get_or xs i x → test (number x) ≡ false
    → fold max so_far (filter test (map number (drop (i + 1) xs))) ≡ fold max so_far (filter test (map number (drop i xs)))
greatest_same test number so_far xs x i less at fails =
    ap (λ b. fold max so_far (cond b (number x ∷ filter test (map number (drop (i + 1) xs))) (filter test (map number (drop (i + 1) xs))))) (sym fails)
    ∙ ap (λ items. fold max so_far (filter test (map number items))) (sym (items_from xs x i less at))

-- the greatest number so far and of those from a place on
pub highest_more : {X : Type 0} (number : X → ℕ) (so_far : ℕ) (xs : List X) (x : X) (i : ℕ) → i < length xs → x ≡ get_or xs i x
    → fold max (max so_far (number x)) (map number (drop (i + 1) xs)) ≡ fold max so_far (map number (drop i xs))
highest_more number so_far xs x i less at = ap (λ items. fold max so_far (map number items)) (sym (items_from xs x i less at))
