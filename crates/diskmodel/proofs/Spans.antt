-- Copying what spans hold from one list to another.
use Rattle.std.proofs.Common.{◌≡◌, ℕ, suc, ◌+◌, ◌-◌, ◌<◌, ◌≤◌, Bool, true, false, ◌||◌, List, ◌∷◌, length, take, drop, get_or, refl, sym, ap, ◌∙◌, arith, drop-cons, length-take}
use Rattle.std.specs.Prelude.{slice_index}
use Rattle.std.proofs.lemmas.Bool.Decides.{leb_tells}
use Rattle.std.proofs.lemmas.List.{get_or-take, ext_get_or, drop_all, places}
use borrow.Rule.Slice.PartMut.{put_mid}
use Rattle.diskmodel.specs.declared.call.Span.{Span}
use Rattle.diskmodel.specs.Outcomes.{holds, is_written}

pub within_span : (span : Span) (place : ℕ) → holds span place ≡ true → (span.place ≤ place) × (place < span.place + span.count)
within_span span place held = grind (arith, leb_tells)

-- an element of a part that was copied from the same places of another list
pub part_read : (into from part : List ℕ) (start end place : ℕ) → end ≤ length into → end ≤ length from → part ≡ take (end - start) (drop start from) → start ≤ place → place < end
    → get_or (put_mid start (end - start) into part) place 0 ≡ get_or from place 0
part_read into from part start end place in_into in_from is above below = grind (arith, places)

-- a place below this length has the same byte in both lists, unless one of the spans holds it
abbrev pub DifferWithin : List Span → ℕ → List ℕ → List ℕ → Type 0
DifferWithin spans len from into = (place : ℕ) → place < len → is_written spans place ≡ false → slice_index from place ≡ slice_index into place

-- the spans from one on are that one and those after it
is_written-drop : (spans : List Span) (k : ℕ) (span : Span) (place : ℕ) → k < length spans → span ≡ get_or spans k span
    → is_written (drop k spans) place ≡ (holds span place || is_written (drop (k + 1) spans) place)
is_written-drop spans k span place within is =
    let next : suc k ≡ k + 1 = omega arith in
    ap (λ (rows : List Span). is_written rows place) (drop-cons spans k span within ∙ ap (λ (n : ℕ). get_or spans k span ∷ drop n spans) next)
    ∙ ap (λ (one : Span). holds one place || is_written (drop (k + 1) spans) place) (sym is)

-- once one span more was copied
pub copied : (spans : List Span) (k : ℕ) (span : Span) (from old new : List ℕ) → k < length spans → span ≡ get_or spans k span → length new ≡ length old
    → ((place : ℕ) → place < length old → holds span place ≡ true → slice_index new place ≡ slice_index from place)
    → ((place : ℕ) → holds span place ≡ false → slice_index new place ≡ slice_index old place)
    → DifferWithin (drop k spans) (length old) from old → DifferWithin (drop (k + 1) spans) (length new) from new
copied spans k span from old new within is size inside outside differ place below none = by_test (holds span place) refl where
  by_test : (held : Bool) → holds span place ≡ held → slice_index from place ≡ slice_index new place
  by_test true held = sym (inside place (omega (arith, size, below)) held)
  by_test false held =
      differ place (omega (arith, size, below)) (is_written-drop spans k span place within is ∙ ap (λ (b : Bool). b || is_written (drop (k + 1) spans) place) held ∙ none)
      ∙ sym (outside place held)

-- once all spans were copied
pub copied_all : (spans : List Span) (k len : ℕ) (from into : List ℕ) → length spans ≤ k → length into ≡ len → len ≤ length from
    → DifferWithin (drop k spans) (length into) from into → into ≡ take len from
copied_all spans k len from into all size within differ =
    ext_get_or 0 into (take len from) (size ∙ omega (arith, length-take len from)) (λ place below.
    sym (differ place below (ap (λ (rows : List Span). is_written rows place) (drop_all k spans all)))
    ∙ sym (get_or-take len from place 0 (omega (arith, size, below))))
