-- What rows have at a place and author, and what they have after a change.
use Rattle.std.proofs.Common.{◌≡◌, ◌≢◌, ℕ, zero, suc, ◌+◌, ◌-◌, ◌<◌, false, List, [], ◌∷◌, ◌++◌, map, length, Option, Some, None, inl, inr, refl, ap}
use Rattle.std.proofs.Common.{sym, ◌∙◌, arith, slice_get, slice_set, get_or, replicate, drop}
use Rattle.std.specs.Prelude.{nat_le, option_map, option_and_then}
use Rattle.std.specs.Option.{option_map_or}
use Rattle.std.proofs.lemmas.Bool.{cases_Bool}
use Rattle.std.proofs.lemmas.Option.{slice_get-map, slice_get-get_or}
use Rattle.committee.specs.Charter.{Charter}
use Rattle.dag.specs.Graph.{row_at, slots_in, marked_in}
use Rattle.dag.specs.Kept.{Rows, entry_at, graph_of, placed_of}

-- what rows have at a place and author
abbrev pub at_place : {X : Type 0} → List (List (Option X)) → ℕ → ℕ → Option X
at_place rows place author = option_and_then (λ row. option_and_then (λ held. held) (slice_get row author)) (slice_get rows place)

-- ---- what is mapped

pub joined-map : {X Y : Type 0} (f : X → Y) (o : Option (Option X)) → option_and_then (λ held. held) (option_map (option_map f) o) ≡ option_map f (option_and_then (λ held. held) o)
joined-map f None = refl
joined-map f (Some None) = refl
joined-map f (Some (Some x)) = refl

row-map : {X Y : Type 0} (f : X → Y) (o : Option (List (Option X))) (author : ℕ)
    → option_and_then (λ row. option_and_then (λ held. held) (slice_get row author)) (option_map (λ row. map (option_map f) row) o)
    ≡ option_map f (option_and_then (λ row. option_and_then (λ held. held) (slice_get row author)) o)
row-map f None author = refl
row-map f (Some row) author = ap (option_and_then (λ held. held)) (slice_get-map (option_map f) row author) ∙ joined-map f (slice_get row author)

pub row_at-map : {X Y : Type 0} (f : X → Y) (floor : ℕ) (rows : List (List (Option X))) (round author : ℕ)
    → row_at floor (map (λ row. map (option_map f) row) rows) round author ≡ option_map f (row_at floor rows round author)
row_at-map f floor rows round author =
    elim (cases_Bool (nat_le floor round)) [
      | inr below ↦ rw below refl
      | inl within ↦
          rw within
          (ap (option_and_then (λ row. option_and_then (λ held. held) (slice_get row author))) (slice_get-map (λ row. map (option_map f) row) rows (round - floor))
          ∙ row-map f (slice_get rows (round - floor)) author)
    ]

fused : {X Y Z : Type 0} (f : X → Y) (g : Y → Z) (o : Option X) → option_map g (option_map f o) ≡ option_map (λ x. g (f x)) o
fused f g None = refl
fused f g (Some x) = refl

fused_or : {X Y Z : Type 0} (f : X → Y) (g : Y → Z) (d : Z) (o : Option X) → option_map_or g (option_map f o) d ≡ option_map_or (λ x. g (f x)) o d
fused_or f g d None = refl
fused_or f g d (Some x) = refl

-- contracts see the certificates that are kept, and their marks
pub slot_kept : (charter : Charter) (floor base : ℕ) (rows : Rows) (round author : ℕ)
    → slots_in (graph_of charter floor base rows) round author ≡ option_map (λ entry. entry.certificate) (entry_at floor rows round author)
slot_kept charter floor base rows round author =
    ap (option_map (λ placed. placed.certificate)) (row_at-map placed_of floor rows round author) ∙ fused placed_of (λ placed. placed.certificate) (entry_at floor rows round author)

pub mark_kept : (charter : Charter) (floor base : ℕ) (rows : Rows) (round author : ℕ)
    → marked_in (graph_of charter floor base rows) round author ≡ option_map_or (λ entry. entry.marked) (entry_at floor rows round author) false
mark_kept charter floor base rows round author =
    ap (λ o. option_map_or (λ placed. placed.marked) o false) (row_at-map placed_of floor rows round author) ∙ fused_or placed_of (λ placed. placed.marked) false (entry_at floor rows round author)

-- ---- rows without a certificate

blank : {X : Type 0} (n author : ℕ) → option_and_then (λ (held : Option X). held) (slice_get (replicate n None) author) ≡ None
blank zero author = refl
blank (suc n) zero = refl
blank (suc n) (suc author) = blank n author

blanks : {X : Type 0} (n count place author : ℕ) → at_place {X = X} (replicate count (replicate n None)) place author ≡ None
blanks n zero place author = refl
blanks {X} n (suc count) zero author = blank {X = X} n author
blanks n (suc count) (suc place) author = blanks n count place author

pub at_place-longer : {X : Type 0} (rows : List (List (Option X))) (n count place author : ℕ) → at_place (rows ++ replicate count (replicate n None)) place author ≡ at_place rows place author
at_place-longer [] n count place author = blanks n count place author
at_place-longer (row ∷ rows) n count zero author = refl
at_place-longer (row ∷ rows) n count (suc place) author = at_place-longer rows n count place author

-- ---- a slot that is set

set_here : {X : Type 0} (xs : List X) (i : ℕ) (x : X) → i < length xs → slice_get (slice_set xs i x) i ≡ Some x
set_here [] i x within = absurd (omega (arith, within))
set_here (y ∷ xs) zero x within = refl
set_here (y ∷ xs) (suc i) x within = set_here xs i x (omega (arith, within))

set_other : {X : Type 0} (xs : List X) (i j : ℕ) (x : X) → j ≢ i → slice_get (slice_set xs i x) j ≡ slice_get xs j
set_other [] i j x other = refl
set_other (y ∷ xs) zero zero x other = absurd (other refl)
set_other (y ∷ xs) zero (suc j) x other = refl
set_other (y ∷ xs) (suc i) zero x other = refl
set_other (y ∷ xs) (suc i) (suc j) x other = set_other xs i j x (λ same. other (ap suc same))

-- the rows where a slot has something else
abbrev pub set_slot : {X : Type 0} → List (List (Option X)) → ℕ → ℕ → Option X → List (List (Option X))
set_slot rows place author held = slice_set rows place (slice_set (get_or rows place []) author held)

pub slot_here : {X : Type 0} (rows : List (List (Option X))) (place author : ℕ) (held : Option X) → place < length rows → author < length (get_or rows place [])
    → at_place (set_slot rows place author held) place author ≡ held
slot_here rows place author held row slot =
    ap (option_and_then (λ r. option_and_then (λ h. h) (slice_get r author))) (set_here rows place (slice_set (get_or rows place []) author held) row)
    ∙ ap (option_and_then (λ h. h)) (set_here (get_or rows place []) author held slot)

pub slot_other_row : {X : Type 0} (rows : List (List (Option X))) (place author : ℕ) (held : Option X) (i a : ℕ) → i ≢ place → at_place (set_slot rows place author held) i a ≡ at_place rows i a
slot_other_row rows place author held i a other =
    ap (option_and_then (λ r. option_and_then (λ h. h) (slice_get r a))) (set_other rows place i (slice_set (get_or rows place []) author held) other)

pub slot_other_author : {X : Type 0} (rows : List (List (Option X))) (place author : ℕ) (held : Option X) (a : ℕ) → place < length rows → a ≢ author
    → at_place (set_slot rows place author held) place a ≡ at_place rows place a
slot_other_author rows place author held a row other =
    ap (option_and_then (λ r. option_and_then (λ h. h) (slice_get r a))) (set_here rows place (slice_set (get_or rows place []) author held) row)
    ∙ ap (option_and_then (λ h. h)) (set_other (get_or rows place []) author a held other)
    ∙ sym (ap (option_and_then (λ r. option_and_then (λ h. h) (slice_get r a))) (slice_get-get_or rows place [] row))

-- ---- rows that are taken out

pub at_place-drop : {X : Type 0} (rows : List (List (Option X))) (count place author : ℕ) → at_place (drop count rows) place author ≡ at_place rows (count + place) author
at_place-drop rows zero place author = ap (λ k. at_place rows k author) (omega arith)
at_place-drop [] (suc count) place author = refl
at_place-drop (row ∷ rows) (suc count) place author =
    let next : suc (count + place) ≡ suc count + place = omega arith in
    at_place-drop rows count place author ∙ ap (λ k. at_place (row ∷ rows) k author) next
