-- What is held, in the order of rounds and authors.
use Rattle.std.proofs.Common.{◌≡◌, ℕ, zero, suc, ◌+◌, ◌-◌, ◌<◌, ◌≤◌, cond, List, [], ◌∷◌, ◌++◌, map, length, Option, Some, None, refl, ap, sym, ◌∙◌, add-one, arith, get_or, drop, slice_get}
use Rattle.std.specs.Prelude.{count_by, is_some, option_map}
use Rattle.std.specs.List.{flat_map}
use Rattle.std.proofs.Math.Seq.{drop-cons}
use Rattle.std.proofs.lemmas.List.Sums.{sum_by-cons}
use Rattle.std.proofs.lemmas.Option.{slice_get-map}
use Rattle.dag.specs.Graph.{Placed, held_in}
use Rattle.dag.specs.Kept.{Rows, placed_of}
use Rattle.dag.specs.declared.entry.Entry.{Entry}

drop_one : {X : Type 0} (xs : List X) (i : ℕ) (x : X) → i < length xs → drop i xs ≡ get_or xs i x ∷ drop (i + 1) xs
drop_one xs i x within = drop-cons xs i x within ∙ ap (λ n. get_or xs i x ∷ drop n xs) (sym (add-one i))

-- ---- one row

pub without : {X : Type 0} (row : List (Option X)) (i : ℕ) (slot : Option X) → i < length row → get_or row i slot ≡ None → held_in (drop i row) ≡ held_in (drop (i + 1) row)
without row i slot within none = ap held_in (drop_one row i slot within) ∙ ap (λ slot. held_in (slot ∷ drop (i + 1) row)) none

pub with_one : {X : Type 0} (row : List (Option X)) (i : ℕ) (slot : Option X) (x : X) → i < length row → get_or row i slot ≡ Some x → held_in (drop i row) ≡ x ∷ held_in (drop (i + 1) row)
with_one row i slot x within some = ap held_in (drop_one row i slot within) ∙ ap (λ slot. held_in (slot ∷ drop (i + 1) row)) some

one_counted : {X : Type 0} (slot : Option X) (row : List (Option X)) → count_by is_some row ≡ length (held_in row) → count_by is_some (slot ∷ row) ≡ length (held_in (slot ∷ row))
one_counted {X} None row is =
    let nothing : Option X = None in
    let more : count_by is_some (nothing ∷ row) ≡ 0 + count_by is_some row = sum_by-cons (λ slot. cond (is_some slot) 1 0) nothing row in
    omega (arith, is, more)
one_counted (Some x) row is =
    let more : count_by is_some (Some x ∷ row) ≡ 1 + count_by is_some row = sum_by-cons (λ slot. cond (is_some slot) 1 0) (Some x) row in
    omega (arith, is, more)

pub counted : {X : Type 0} (row : List (Option X)) → count_by is_some row ≡ length (held_in row)
counted [] = refl
counted (slot ∷ row) = one_counted slot row (counted row)

-- ---- rows

pub of_first : {X : Type 0} (xs ys : List X) (i : ℕ) → i < length xs → slice_get (xs ++ ys) i ≡ slice_get xs i
of_first [] ys i within = absurd (omega (arith, within))
of_first (x ∷ xs) ys zero within = refl
of_first (x ∷ xs) ys (suc i) within = of_first xs ys i (omega (arith, within))

pub of_rest : {X : Type 0} (xs ys : List X) (i : ℕ) → length xs ≤ i → slice_get (xs ++ ys) i ≡ slice_get ys (i - length xs)
of_rest [] ys i past = ap (slice_get ys) (omega arith)
of_rest (x ∷ xs) ys zero past = absurd (omega (arith, past))
of_rest (x ∷ xs) ys (suc i) past = of_rest xs ys i (omega (arith, past)) ∙ ap (slice_get ys) (omega arith)

-- the rows from a place on are that row and the others
row_first : {X : Type 0} (rows : List (List (Option X))) (i : ℕ) (row : List (Option X)) → i < length rows → row ≡ get_or rows i row
    → flat_map held_in (drop i rows) ≡ held_in row ++ flat_map held_in (drop (i + 1) rows)
row_first rows i row within is = ap (flat_map held_in) (drop_one rows i row within) ∙ ap (λ r. held_in r ++ flat_map held_in (drop (i + 1) rows)) (sym is)

-- a place among those of the row
pub in_first : {X : Type 0} (rows : List (List (Option X))) (i place : ℕ) (row : List (Option X)) → i < length rows → row ≡ get_or rows i row → place < count_by is_some row
    → slice_get (flat_map held_in (drop i rows)) place ≡ slice_get (held_in row) place
in_first rows i place row within is few =
    ap (λ l. slice_get l place) (row_first rows i row within is) ∙ of_first (held_in row) (flat_map held_in (drop (i + 1) rows)) place (omega (arith, few, counted row))

-- a place after them
pub in_rest : {X : Type 0} (rows : List (List (Option X))) (i place count : ℕ) (row : List (Option X)) → i < length rows → row ≡ get_or rows i row → count ≡ count_by is_some row → count ≤ place
    → slice_get (flat_map held_in (drop i rows)) place ≡ slice_get (flat_map held_in (drop (i + 1) rows)) (place - count)
in_rest rows i place count row within is counts past =
    let others = flat_map held_in (drop (i + 1) rows) in
    let all : count ≡ length (held_in row) = counts ∙ counted row in
    ap (λ l. slice_get l place) (row_first rows i row within is) ∙ of_rest (held_in row) others place (omega (arith, past, all)) ∙ ap (λ n. slice_get others (place - n)) (sym all)

-- ---- what contracts see

one_mapped : {X Y : Type 0} (f : X → Y) (slot : Option X) (row : List (Option X)) → held_in (map (option_map f) row) ≡ map f (held_in row)
    → held_in (map (option_map f) (slot ∷ row)) ≡ map f (held_in (slot ∷ row))
one_mapped f None row is = is
one_mapped f (Some x) row is = ap (λ l. f x ∷ l) is

row_mapped : {X Y : Type 0} (f : X → Y) (row : List (Option X)) → held_in (map (option_map f) row) ≡ map f (held_in row)
row_mapped f [] = refl
row_mapped f (slot ∷ row) = one_mapped f slot row (row_mapped f row)

joined : {X Y : Type 0} (f : X → Y) (xs ys : List X) → map f xs ++ map f ys ≡ map f (xs ++ ys)
joined f [] ys = refl
joined f (x ∷ xs) ys = ap (λ l. f x ∷ l) (joined f xs ys)

rows_mapped : {X Y : Type 0} (f : X → Y) (rows : List (List (Option X))) → flat_map held_in (map (λ row. map (option_map f) row) rows) ≡ map f (flat_map held_in rows)
rows_mapped f [] = refl
rows_mapped f (row ∷ rows) =
    ap (λ l. l ++ flat_map held_in (map (λ r. map (option_map f) r) rows)) (row_mapped f row) ∙ ap (λ l. map f (held_in row) ++ l) (rows_mapped f rows)
    ∙ joined f (held_in row) (flat_map held_in rows)

-- the certificate at a place is that of what is kept there
pub nth_seen : (rows : Rows) (place : ℕ) → slice_get (map (λ (placed : Placed). placed.certificate) (flat_map held_in (map (λ row. map (option_map placed_of) row) rows))) place
    ≡ option_map (λ (entry : Entry). entry.certificate) (slice_get (flat_map held_in rows) place)
nth_seen rows place =
    let all = flat_map held_in rows in
    ap (λ l. slice_get (map (λ (placed : Placed). placed.certificate) l) place) (rows_mapped placed_of rows)
    ∙ slice_get-map (λ (placed : Placed). placed.certificate) (map placed_of all) place
    ∙ ap (option_map (λ (placed : Placed). placed.certificate)) (slice_get-map placed_of all place)
    ∙ both (slice_get all place)
  where
    both : (o : Option Entry) → option_map (λ (placed : Placed). placed.certificate) (option_map placed_of o) ≡ option_map (λ (entry : Entry). entry.certificate) o
    both None = refl
    both (Some entry) = refl
