-- What is kept where marks are set.
use Rattle.std.proofs.Common.{◌≡◌, ◌≢◌, ℕ, zero, suc, ◌+◌, ◌-◌, ◌<◌, ◌≤◌, Bool, true, false, List, [], ◌∷◌, ◌++◌, map, length, Option, Some, None}
use Rattle.std.proofs.Common.{inl, inr, refl, ap, sym, ◌∙◌, subst, arith, add-one, slice_get, slice_set, get_or, take, drop}
use Rattle.std.proofs.Math.Path.{fun_ext}
use Rattle.std.specs.Prelude.{nat_le, option_map, option_and_then, is_some, All, if◌then◌else◌, ◌==◌, ◌&&◌, ◌||◌}
use Rattle.std.specs.Option.{option_map_or}
use Rattle.std.proofs.lemmas.Bool.{cases_Bool, eqb-true, eq-eqb, leb-true, true≢false}
use Rattle.std.proofs.lemmas.List.{length-map, append-nil, take_all}
use Rattle.std.proofs.Math.ListN.{drop_of_length-le}
use Rattle.std.proofs.lemmas.Option.{same_Some, none-some}
use Rattle.wire.specs.declared.round.TheConstants.Round.{MAX}
use Rattle.committee.specs.Charter.{Charter}
use Rattle.spec_model.specs.Holdings.{all_held}
use Rattle.spec_model.specs.Slots.{Slots}
use Rattle.spec_laws.proofs.Lists.{given_or_none}
use Rattle.dag.specs.Changes.{IsMarked}
use Rattle.dag.specs.Graph.{DagView, slots_in, marked_in}
use Rattle.dag.specs.Kept.{Rows, entry_at, graph_of, placed_of, has_below, IsKept, IsEntry}
use Rattle.dag.specs.Rows.{marked, marked_from, marked_row, marked_rows}
use Rattle.dag.specs.declared.entry.Entry.{Entry}
use Rattle.dag.proofs.Slots.{at_place, slot_kept, mark_kept}
use Rattle.dag.proofs.Steps.{or_false}

-- a slot, with a mark if it is to have one
abbrev pub after : Bool → Option Entry → Option Entry
after here slot = if here then option_map marked slot else slot

after_none : (here : Bool) → after here None ≡ None
after_none true = refl
after_none false = refl

-- ---- the loop over a row

mark_next : (from : ℕ) (authors : ℕ → Bool) (row : List (Option Entry)) (i : ℕ) (slot : Option Entry) → i < length row → slot ≡ get_or row i slot
    → slice_set (marked_from from authors (take i row) ++ drop i row) i (after (authors (from + i)) slot) ≡ marked_from from authors (take (suc i) row) ++ drop (suc i) row
mark_next from authors [] i slot within is = absurd (omega (arith, within))
mark_next from authors (first ∷ row) zero slot within is =
    let level : from + 0 ≡ from = omega arith in
    ap (λ k. after (authors k) slot ∷ row) level ∙ ap (λ s. after (authors from) s ∷ row) is
mark_next from authors (first ∷ row) (suc i) slot within is =
    let level : from + suc i ≡ (from + 1) + i = omega arith in
    ap (λ k. after (authors from) first ∷ slice_set (marked_from (from + 1) authors (take i row) ++ drop i row) i (after (authors k) slot)) level
    ∙ ap (λ l. after (authors from) first ∷ l) (mark_next (from + 1) authors row i slot (omega (arith, within)) is)

mark_passes : (from : ℕ) (authors : ℕ → Bool) (row : List (Option Entry)) (i : ℕ) → authors (from + i) ≡ false
    → marked_from from authors (take i row) ++ drop i row ≡ marked_from from authors (take (suc i) row) ++ drop (suc i) row
mark_passes from authors [] zero fails = refl
mark_passes from authors [] (suc i) fails = refl
mark_passes from authors (first ∷ row) zero fails =
    let level : from + 0 ≡ from = omega arith in
    let here : authors from ≡ false = ap authors (sym level) ∙ fails in
    ap (λ b. after b first ∷ row) (sym here)
mark_passes from authors (first ∷ row) (suc i) fails =
    let level : (from + 1) + i ≡ from + suc i = omega arith in
    ap (λ l. after (authors from) first ∷ l) (mark_passes (from + 1) authors row i (ap authors level ∙ fails))

next_is : (from : ℕ) (authors : ℕ → Bool) (row : List (Option Entry)) (i : ℕ) (d : Option Entry) → get_or (marked_from from authors (take i row) ++ drop i row) i d ≡ get_or row i d
next_is from authors [] zero d = refl
next_is from authors [] (suc i) d = refl
next_is from authors (first ∷ row) zero d = refl
next_is from authors (first ∷ row) (suc i) d = next_is (from + 1) authors row i d

still_long : (from : ℕ) (authors : ℕ → Bool) (row : List (Option Entry)) (i : ℕ) → length (marked_from from authors (take i row) ++ drop i row) ≡ length row
still_long from authors [] zero = refl
still_long from authors [] (suc i) = refl
still_long from authors (first ∷ row) zero = refl
still_long from authors (first ∷ row) (suc i) = ap suc (still_long (from + 1) authors row i)

-- the slots up to a place have their marks
abbrev pub marked_up_to : (ℕ → Bool) → List (Option Entry) → ℕ → List (Option Entry)
marked_up_to authors row i = marked_from 0 authors (take i row) ++ drop i row

pub as_long_marked : (authors : ℕ → Bool) (row : List (Option Entry)) (i : ℕ) → length (marked_up_to authors row i) ≡ length row
as_long_marked authors row i = still_long 0 authors row i

pub mark_one : (authors : ℕ → Bool) (row now : List (Option Entry)) (i : ℕ) (slot : Option Entry) → now ≡ marked_up_to authors row i → i < length row → slot ≡ get_or now i slot → authors i ≡ true
    → slice_set now i (option_map marked slot) ≡ marked_up_to authors row (i + 1)
mark_one authors row now i slot is within at here =
    let level : 0 + i ≡ i = omega arith in
    let passes : authors (0 + i) ≡ true = ap authors level ∙ here in
    ap (λ l. slice_set l i (option_map marked slot)) is ∙ ap (λ b. slice_set (marked_up_to authors row i) i (after b slot)) (sym passes)
    ∙ mark_next 0 authors row i slot within (at ∙ ap (λ l. get_or l i slot) is ∙ next_is 0 authors row i slot)
    ∙ ap (λ k. marked_up_to authors row k) (sym (add-one i))

pub mark_not : (authors : ℕ → Bool) (row now : List (Option Entry)) (i : ℕ) → now ≡ marked_up_to authors row i → authors i ≡ false → now ≡ marked_up_to authors row (i + 1)
mark_not authors row now i is fails =
    let level : 0 + i ≡ i = omega arith in
    is ∙ mark_passes 0 authors row i (ap authors level ∙ fails) ∙ ap (λ k. marked_up_to authors row k) (sym (add-one i))

-- all slots have their marks
pub marked_whole : (authors : ℕ → Bool) (row : List (Option Entry)) (i : ℕ) → length row ≤ i → marked_up_to authors row i ≡ marked_row authors row
marked_whole authors row i past =
    ap (λ l. marked_from 0 authors l ++ drop i row) (take_all i row past) ∙ ap (λ l. marked_from 0 authors row ++ l) (drop_of_length-le row past)
    ∙ append-nil (marked_from 0 authors row)

-- ---- rows with marks in one of them

pub marked_there : (rows : Rows) (place : ℕ) (authors : ℕ → Bool) (row : List (Option Entry)) → row ≡ get_or rows place row → place < length rows
    → slice_set rows place (marked_row authors row) ≡ marked_rows rows place authors
marked_there [] place authors row is within = absurd (omega (arith, within))
marked_there (first ∷ rows) zero authors row is within = ap (λ r. marked_row authors r ∷ rows) is
marked_there (first ∷ rows) (suc place) authors row is within = ap (λ l. first ∷ l) (marked_there rows place authors row is (omega (arith, within)))

pub marked_past : (rows : Rows) (place : ℕ) (authors : ℕ → Bool) → length rows ≤ place → rows ≡ marked_rows rows place authors
marked_past [] place authors past = refl
marked_past (first ∷ rows) zero authors past = absurd (omega (arith, past))
marked_past (first ∷ rows) (suc place) authors past = ap (λ l. first ∷ l) (marked_past rows place authors (omega (arith, past)))

long_row : (from : ℕ) (authors : ℕ → Bool) (row : List (Option Entry)) → length (marked_from from authors row) ≡ length row
long_row from authors [] = refl
long_row from authors (slot ∷ row) = ap suc (long_row (from + 1) authors row)

pub long_rows : (rows : Rows) (place : ℕ) (authors : ℕ → Bool) → length (marked_rows rows place authors) ≡ length rows
long_rows [] place authors = refl
long_rows (row ∷ rows) zero authors = refl
long_rows (row ∷ rows) (suc place) authors = ap suc (long_rows rows place authors)

full_marked : (size : ℕ) (rows : Rows) (place : ℕ) (authors : ℕ → Bool) → All (λ row. length row ≡ size) rows → All (λ row. length row ≡ size) (marked_rows rows place authors)
full_marked size [] place authors full k d within = absurd (omega (arith, within))
full_marked size (row ∷ rows) zero authors full zero d within = long_row 0 authors row ∙ full zero d (omega arith)
full_marked size (row ∷ rows) zero authors full (suc k) d within = full (suc k) d (omega (arith, within))
full_marked size (row ∷ rows) (suc place) authors full zero d within = full zero d (omega arith)
full_marked size (row ∷ rows) (suc place) authors full (suc k) d within =
    full_marked size rows place authors (λ i d' inside. full (suc i) d' (omega (arith, inside))) k d (omega (arith, within))

-- ---- what they have

slot_marked : (from : ℕ) (authors : ℕ → Bool) (row : List (Option Entry)) (author : ℕ) → slice_get (marked_from from authors row) author
    ≡ option_map (after (authors (from + author))) (slice_get row author)
slot_marked from authors [] author = refl
slot_marked from authors (slot ∷ row) zero =
    let level : from ≡ from + 0 = omega arith in
    ap (λ k. Some (after (authors k) slot)) level
slot_marked from authors (slot ∷ row) (suc author) =
    let level : (from + 1) + author ≡ from + suc author = omega arith in
    slot_marked (from + 1) authors row author ∙ ap (λ k. option_map (after (authors k)) (slice_get row author)) level

joined : (here : Bool) (o : Option (Option Entry)) → option_and_then (λ held. held) (option_map (after here) o) ≡ after here (option_and_then (λ held. held) o)
joined here None = sym (after_none here)
joined here (Some slot) = refl

marked_here : (rows : Rows) (place : ℕ) (authors : ℕ → Bool) (author : ℕ) → at_place (marked_rows rows place authors) place author ≡ after (authors author) (at_place rows place author)
marked_here [] place authors author = sym (after_none (authors author))
marked_here (row ∷ rows) zero authors author =
    let level : 0 + author ≡ author = omega arith in
    ap (option_and_then (λ held. held)) (slot_marked 0 authors row author) ∙ joined (authors (0 + author)) (slice_get row author)
    ∙ ap (λ k. after (authors k) (option_and_then (λ held. held) (slice_get row author))) level
marked_here (row ∷ rows) (suc place) authors author = marked_here rows place authors author

marked_elsewhere : (rows : Rows) (place : ℕ) (authors : ℕ → Bool) (p author : ℕ) → p ≢ place → at_place (marked_rows rows place authors) p author ≡ at_place rows p author
marked_elsewhere [] place authors p author other = refl
marked_elsewhere (row ∷ rows) zero authors zero author other = absurd (other refl)
marked_elsewhere (row ∷ rows) zero authors (suc p) author other = refl
marked_elsewhere (row ∷ rows) (suc place) authors zero author other = refl
marked_elsewhere (row ∷ rows) (suc place) authors (suc p) author other = marked_elsewhere rows place authors p author (λ same. other (ap suc same))

entry_marked : (floor : ℕ) (rows : Rows) (round : ℕ) (authors : ℕ → Bool) → floor ≤ round → (r a : ℕ)
    → entry_at floor (marked_rows rows (round - floor) authors) r a ≡ after ((r == round) && authors a) (entry_at floor rows r a)
entry_marked floor rows round authors above r a =
    let later = marked_rows rows (round - floor) authors in
    elim (cases_Bool (nat_le floor r)) [
      | inr below ↦ rw below (sym (after_none ((r == round) && authors a)))
      | inl within ↦ elim (cases_Bool (r == round)) [
        | inl same ↦
            let is = eqb-true r round same in
            rw (within, same) (
            ap (λ k. at_place later (k - floor) a) is ∙ marked_here rows (round - floor) authors a ∙ ap (λ k. after (authors a) (at_place rows (k - floor) a)) (sym is)
            )
        | inr differs ↦
            let apart : r - floor ≢ round - floor = λ e. (let same : r ≡ round = omega (arith, e, above, leb-true floor r within) in absurd (true≢false (sym (eq-eqb r round same) ∙ differs))) in
            rw (within, differs) (marked_elsewhere rows (round - floor) authors (r - floor) a apart)
      ]
    ]

-- ---- what contracts see of them

seen_same : (here : Bool) (o : Option Entry) → option_map (λ (e : Entry). e.certificate) (after here o) ≡ option_map (λ (e : Entry). e.certificate) o
seen_same true None = refl
seen_same true (Some e) = refl
seen_same false o = refl

mark_slots : (charter : Charter) (floor base : ℕ) (rows : Rows) (round : ℕ) (authors : ℕ → Bool) → floor ≤ round
    → slots_in (graph_of charter floor base (marked_rows rows (round - floor) authors)) ≡ slots_in (graph_of charter floor base rows)
mark_slots charter floor base rows round authors above =
    fun_ext (λ r. fun_ext (λ a.
    slot_kept charter floor base (marked_rows rows (round - floor) authors) r a ∙ ap (option_map (λ (e : Entry). e.certificate)) (entry_marked floor rows round authors above r a)
    ∙ seen_same ((r == round) && authors a) (entry_at floor rows r a) ∙ sym (slot_kept charter floor base rows r a)))

marks_more : (level author : Bool) (o : Option Entry)
    → option_map_or (λ (e : Entry). e.marked) (after (level && author) o) false
    ≡ (option_map_or (λ (e : Entry). e.marked) o false || (level && (author && is_some (option_map (λ (e : Entry). e.certificate) o))))
marks_more false author o = sym (or_false (option_map_or (λ (e : Entry). e.marked) o false))
marks_more true false o = sym (or_false (option_map_or (λ (e : Entry). e.marked) o false))
marks_more true true None = refl
marks_more true true (Some e) = sym (or_true e.marked)
  where
    or_true : (b : Bool) → (b || true) ≡ true
    or_true true = refl
    or_true false = refl

-- what is kept of a slot stays so where contracts see the same certificates
carried : (charter : Charter) (floor base : ℕ) (rows later : Rows) → slots_in (graph_of charter floor base later) ≡ slots_in (graph_of charter floor base rows) → (round author : ℕ) (e : Entry)
    → IsEntry (graph_of charter floor base rows) round author e → IsEntry (graph_of charter floor base later) round author e
carried charter floor base rows later same round author e facts = record {
  place = facts.place;
  digest = facts.digest;
  held = ap (λ (s : Slots). all_held s floor e.certificate.header) same ∙ facts.held;
  parents = λ above other. facts.parents above other ∙ sym (ap (λ (s : Slots). has_below s e.certificate other) same);
}

remarked : (graph : DagView) (round author : ℕ) (e : Entry) → IsEntry graph round author e → IsEntry graph round author (marked e)
remarked graph round author e facts = record { place = facts.place; digest = facts.digest; held = facts.held; parents = facts.parents }

after_is : (here : Bool) (old e : Entry) (P : Entry → Type 0) → after here (Some old) ≡ Some e → P old → P (marked old) → P e
after_is true old e P is plain with = subst P (same_Some (marked old) e is) with
after_is false old e P is plain with = subst P (same_Some old e is) plain

-- ---- the whole

pub mark_kept_with : (charter : Charter) (floor base : ℕ) (rows : Rows) (round : ℕ) (authors : ℕ → Bool) → IsKept charter floor base rows → floor ≤ round
    → IsKept charter floor base (marked_rows rows (round - floor) authors)
mark_kept_with charter floor base rows round authors kept above =
    let later = marked_rows rows (round - floor) authors in
    let long = long_rows rows (round - floor) authors in
    let same = mark_slots charter floor base rows round authors above in
    record {
      valid = kept.valid;
      low = kept.low;
      within = kept.within;
      few = omega (arith, kept.few, long);
      full = full_marked (length charter.keys) rows (round - floor) authors kept.full;
      entries = λ r a e there.
          let here = (r == round) && authors a in
          let is : after here (entry_at floor rows r a) ≡ Some e = sym (entry_marked floor rows round authors above r a) ∙ there in
          elim (given_or_none (entry_at floor rows r a)) [
            | inr none ↦ absurd (none-some e (sym (ap (after here) none ∙ after_none here) ∙ is))
            | inl old ↦
                let facts = kept.entries r a old.0 old.1 in
                carried charter floor base rows later same r a e
                (after_is here old.0 e (IsEntry (graph_of charter floor base rows) r a) (sym (ap (after here) old.1) ∙ is) facts (remarked (graph_of charter floor base rows) r a old.0 facts))
          ];
    }

pub mark_seen : (charter : Charter) (floor base : ℕ) (rows : Rows) (round : ℕ) (authors : ℕ → Bool) → floor ≤ round
    → IsMarked (graph_of charter floor base rows) (graph_of charter floor base (marked_rows rows (round - floor) authors)) round authors
mark_seen charter floor base rows round authors above =
    let later = marked_rows rows (round - floor) authors in
    let mark_of : Option Entry → Bool = λ o. option_map_or (λ (e : Entry). e.marked) o false in
    let long = long_rows rows (round - floor) authors in
    let was = length-map rows (λ row. map (option_map placed_of) row) in
    let now = length-map later (λ row. map (option_map placed_of) row) in
    record {
      charter = refl;
      floor = refl;
      base = refl;
      slots = λ r a. ap (λ (s : Slots). s r a) (mark_slots charter floor base rows round authors above);
      marked = λ r a.
          mark_kept charter floor base later r a ∙ ap mark_of (entry_marked floor rows round authors above r a) ∙ marks_more (r == round) (authors a) (entry_at floor rows r a)
          ∙ ap (λ b. b || ((r == round) && (authors a && is_some (option_map (λ (e : Entry). e.certificate) (entry_at floor rows r a))))) (sym (mark_kept charter floor base rows r a))
          ∙ ap (λ o. marked_in (graph_of charter floor base rows) r a || ((r == round) && (authors a && is_some o))) (sym (slot_kept charter floor base rows r a));
      end = omega (arith, long, was, now);
    }

-- ---- another base

pub rebased : (charter : Charter) (floor base later : ℕ) (rows : Rows) → IsKept charter floor base rows → base ≤ later → later ≤ MAX → IsKept charter floor later rows
rebased charter floor base later rows kept higher within = record {
  valid = kept.valid;
  low = omega (arith, kept.low, higher);
  within = within;
  few = kept.few;
  full = kept.full;
  entries = λ round author e is.
      let facts = kept.entries round author e is in
      record { place = facts.place; digest = facts.digest; held = facts.held; parents = facts.parents };
}
