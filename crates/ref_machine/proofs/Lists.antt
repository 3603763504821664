-- Look-ups in lists that lose some of their elements, or get more.
use Rattle.std.proofs.Common.{◌≡◌, ℕ, ◌≤◌, Bool, true, false, List, [], ◌∷◌, ◌++◌, drop, length, map, Option, Some, None, refl, ap, sym, ◌∙◌}
use Rattle.std.specs.Prelude.{cond, filter, find, option_map, ◌||◌}
use Rattle.std.specs.List.{list_any}
use Rattle.std.specs.Option.{option_or, option_to_list}
use Rattle.std.proofs.lemmas.Bool.{true≢false}
use Rattle.std.proofs.lemmas.List.{append-nil, drop_all}
use Rattle.std.proofs.lemmas.List.Folds.{find-append, list_any-append}

one_kept : {X : Type 0} (test : X → Bool) (x : X) (rest all : List X) (kept fits stays : Bool) → test x ≡ fits → (fits ≡ true → stays ≡ kept) → find test rest ≡ cond kept (find test all) None
    → find test (cond stays (x ∷ rest) rest) ≡ cond kept (find test (x ∷ all)) None
one_kept test x rest all true true true t e h = rw t refl
one_kept test x rest all false true true t e h = absurd (true≢false (e refl))
one_kept test x rest all true true false t e h = absurd (true≢false (sym (e refl)))
one_kept test x rest all false true false t e h = h
one_kept test x rest all kept false true t e h = rw t h
one_kept test x rest all kept false false t e h = rw t h

-- what is found among those that are kept, where all that fit are kept, or none is
pub find_kept : {X : Type 0} (test keep : X → Bool) (kept : Bool) (xs : List X) → ((x : X) → test x ≡ true → keep x ≡ kept) → find test (filter keep xs) ≡ cond kept (find test xs) None
find_kept test keep true [] each = refl
find_kept test keep false [] each = refl
find_kept test keep kept (x ∷ xs) each =
    one_kept test x (filter keep xs) xs kept (test x) (keep x) refl (each x) (find_kept test keep kept xs each)

or_none : {X : Type 0} (o : Option X) → option_or o None ≡ o
or_none (Some x) = refl
or_none None = refl

-- what is found with one more at the end, or with none
pub found_more : {X : Type 0} (test : X → Bool) (xs : List X) (x : X) (o found : Option X) → o ≡ Some x → find test (option_to_list o) ≡ found
    → find test (xs ++ x ∷ []) ≡ option_or (find test xs) found
found_more test xs x o found is more =
    find-append test xs (x ∷ []) ∙ ap (λ p. option_or (find test xs) (find test (option_to_list p))) (sym is) ∙ ap (option_or (find test xs)) more

pub found_same : {X : Type 0} (test : X → Bool) (xs : List X) (o found : Option X) → o ≡ None → find test (option_to_list o) ≡ found → find test xs ≡ option_or (find test xs) found
found_same test xs o found is more =
    sym (or_none (find test xs)) ∙ ap (λ p. option_or (find test xs) (find test (option_to_list p))) (sym is) ∙ ap (option_or (find test xs)) more

any_map : {X Y : Type 0} (f : X → Y) (test : Y → Bool) (xs : List X) → list_any test (map f xs) ≡ list_any (λ x. test (f x)) xs
any_map f test [] = refl
any_map f test (x ∷ xs) = ap (λ b. test (f x) || b) (any_map f test xs)

-- whether one of those before and of those that came from other things passes a test
pub any_with : {X Y : Type 0} (f : X → Y) (test : Y → Bool) (before all : List Y) (xs : List X) (i : ℕ) → length xs ≤ i → all ++ map f (drop i xs) ≡ before ++ map f xs
    → list_any test all ≡ (list_any test before || list_any (λ x. test (f x)) xs)
any_with f test before all xs i last is =
    ap (list_any test) (sym (append-nil all) ∙ ap (λ l. all ++ map f l) (sym (drop_all i xs last)) ∙ is)
    ∙ list_any-append test before (map f xs) ∙ ap (λ b. list_any test before || b) (any_map f test xs)

map_or : {X Y : Type 0} (f : X → Y) (one other : Option X) → option_map f (option_or one other) ≡ option_or (option_map f one) (option_map f other)
map_or f (Some x) other = refl
map_or f None other = refl

-- what is made of what is found with one more at the end, or with none
pub made_more : {X Y : Type 0} (f : X → Y) (test : X → Bool) (xs : List X) (x : X) (o : Option X) (found : Option Y) → o ≡ Some x → option_map f (find test (option_to_list o)) ≡ found
    → option_map f (find test (xs ++ x ∷ [])) ≡ option_or (option_map f (find test xs)) found
made_more f test xs x o found is more =
    ap (option_map f) (found_more test xs x o (find test (option_to_list o)) is refl) ∙ map_or f (find test xs) (find test (option_to_list o)) ∙ ap (option_or (option_map f (find test xs))) more

pub made_same : {X Y : Type 0} (f : X → Y) (test : X → Bool) (xs : List X) (o : Option X) (found : Option Y) → o ≡ None → option_map f (find test (option_to_list o)) ≡ found
    → option_map f (find test xs) ≡ option_or (option_map f (find test xs)) found
made_same f test xs o found is more =
    ap (option_map f) (found_same test xs o (find test (option_to_list o)) is refl) ∙ map_or f (find test xs) (find test (option_to_list o)) ∙ ap (option_or (option_map f (find test xs))) more

-- the same is made of two things, where each is there
pub either : {X Y Z : Type 0} (f : X → Z) (g : Y → Z) (x : X) (y : Y) (there : Bool) → f x ≡ g y → option_map f (cond there (Some x) None) ≡ option_map g (cond there (Some y) None)
either f g x y true same = ap Some same
either f g x y false same = refl
