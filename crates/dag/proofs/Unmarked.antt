-- The set of those whose certificates have no mark, beside a row that changes.
use Rattle.std.proofs.Common.{◌≡◌, ◌≢◌, ℕ, zero, suc, ◌+◌, ◌<◌, Bool, true, false, List, [], ◌∷◌, ◌++◌, length, Option, Some, None, inl, inr, refl, ap, sym, ◌∙◌, arith, slice_set}
use Rattle.std.specs.Prelude.{not, replicate, if◌then◌else◌, ◌==◌, ◌&&◌, ◌||◌}
use Rattle.std.specs.Option.{option_map_or}
use Rattle.std.proofs.lemmas.Bool.{cases_Bool, eqb-true, eqb-false}
use Rattle.committee.specs.Sets.{has}
use Rattle.committee.specs.declared.sets.MemberSet.{MemberSet}
use Rattle.dag.specs.Rows.{slot_at, marked_from, marked_row, IsRow}
use Rattle.dag.specs.declared.entry.Entry.{Entry}
use Rattle.dag.proofs.Changing.{after}

-- a certificate has no mark
abbrev without_mark : Option Entry → Bool
without_mark slot = option_map_or (λ entry. not entry.marked) slot false

bare_at : (size author : ℕ) → slot_at (replicate size None) author ≡ None
bare_at zero author = refl
bare_at (suc size) zero = refl
bare_at (suc size) (suc author) = bare_at size author

bare_and_one : (size : ℕ) → ◌≡◌ {A = List (Option Entry)} (replicate size None ++ None ∷ []) (replicate (suc size) None)
bare_and_one zero = refl
bare_and_one (suc size) = ap (λ row. None ∷ row) (bare_and_one size)

-- one more slot that holds nothing
pub bare_more : (size : ℕ) → ◌≡◌ {A = List (Option Entry)} (replicate size None ++ None ∷ []) (replicate (size + 1) None)
bare_more size =
    let next : suc size ≡ size + 1 = omega arith in
    bare_and_one size ∙ ap (λ n. replicate n None) next

pub of_nobody : (size : ℕ) (set : MemberSet) → ((author : ℕ) → has set author ≡ false) → IsRow (replicate size None) set
of_nobody size set none author = none author ∙ ap without_mark (sym (bare_at size author))

set_here : (row : List (Option Entry)) (place : ℕ) (slot : Option Entry) → place < length row → slot_at (slice_set row place slot) place ≡ slot
set_here [] place slot within = absurd (omega (arith, within))
set_here (first ∷ row) zero slot within = refl
set_here (first ∷ row) (suc place) slot within = set_here row place slot (omega (arith, within))

set_there : (row : List (Option Entry)) (place other : ℕ) (slot : Option Entry) → other ≢ place → slot_at (slice_set row place slot) other ≡ slot_at row other
set_there [] place other slot apart = refl
set_there (first ∷ row) zero zero slot apart = absurd (apart refl)
set_there (first ∷ row) zero (suc other) slot apart = refl
set_there (first ∷ row) (suc place) zero slot apart = refl
set_there (first ∷ row) (suc place) (suc other) slot apart = set_there row place other slot (λ e. apart (ap suc e))

set_at_place : (row : List (Option Entry)) (place other : ℕ) (slot : Option Entry) → place < length row
    → slot_at (slice_set row place slot) other ≡ (if other == place then slot else slot_at row other)
set_at_place row place other slot within =
    elim (cases_Bool (other == place)) [
      | inl same ↦ rw same (ap (slot_at (slice_set row place slot)) (eqb-true other place same) ∙ set_here row place slot within)
      | inr differs ↦ rw differs (set_there row place other slot (eqb-false other place differs))
    ]

one_more : (here : Bool) (entry : Entry) (old : Option Entry) (was : Bool) → entry.marked ≡ false → was ≡ without_mark old
    → (was || here) ≡ without_mark (if here then Some entry else old)
one_more true entry old true bare is = rw bare refl
one_more true entry old false bare is = rw bare refl
one_more false entry old true bare is = is
one_more false entry old false bare is = is

-- one certificate more, which has no mark
pub of_set : (row : List (Option Entry)) (before later : MemberSet) (place : ℕ) (entry : Entry) → place < length row → entry.marked ≡ false → IsRow row before
    → ((other : ℕ) → has later other ≡ (has before other || (other == place))) → IsRow (slice_set row place (Some entry)) later
of_set row before later place entry within bare is changed other =
    changed other ∙ one_more (other == place) entry (slot_at row other) (has before other) bare (is other)
    ∙ ap without_mark (sym (set_at_place row place other (Some entry) within))

marked_at : (from : ℕ) (authors : ℕ → Bool) (row : List (Option Entry)) (author : ℕ) → slot_at (marked_from from authors row) author ≡ after (authors (from + author)) (slot_at row author)
marked_at from authors [] author = sym (nothing (authors (from + author)))
  where
    nothing : (here : Bool) → after here None ≡ None
    nothing true = refl
    nothing false = refl
marked_at from authors (slot ∷ row) zero =
    let level : from + 0 ≡ from = omega arith in
    ap (λ k. after (authors k) slot) (sym level)
marked_at from authors (slot ∷ row) (suc author) =
    let level : (from + 1) + author ≡ from + suc author = omega arith in
    marked_at (from + 1) authors row author ∙ ap (λ k. after (authors k) (slot_at row author)) level

one_less : (here : Bool) (old : Option Entry) (was : Bool) → was ≡ without_mark old → (was && not here) ≡ without_mark (after here old)
one_less true None true is = refl
one_less true None false is = refl
one_less true (Some entry) true is = refl
one_less true (Some entry) false is = refl
one_less false old true is = is
one_less false old false is = is

-- some certificates get a mark
pub of_marked : (row : List (Option Entry)) (before later : MemberSet) (authors : ℕ → Bool) → IsRow row before
    → ((other : ℕ) → has later other ≡ (has before other && not (authors other))) → IsRow (marked_row authors row) later
of_marked row before later authors is changed other =
    let level : 0 + other ≡ other = omega arith in
    changed other ∙ one_less (authors other) (slot_at row other) (has before other) (is other)
    ∙ ap without_mark (ap (λ k. after (authors k) (slot_at row other)) (sym level) ∙ sym (marked_at 0 authors row other))
