-- What is kept at the beginning: the genesis.
use Rattle.std.proofs.Common.{◌≡◌, ℕ, zero, suc, ◌+◌, ◌-◌, ◌<◌, ◌≤◌, false, List, [], ◌∷◌, map, length, Option, Some, None, inl, inr, refl, ap, sym, ◌∙◌, subst, arith, slice_get}
use Rattle.std.specs.Prelude.{Contains, All, find, option_map, option_and_then, ◌==◌}
use Rattle.std.specs.List.{range_with_len}
use Rattle.std.specs.Option.{option_map_or}
use Rattle.std.proofs.lemmas.Bool.{cases_Bool, cases_lt, eqb-true, le-leb}
use Rattle.std.proofs.lemmas.List.FromFn.{length-range_with_len, get_or-range_with_len}
use Rattle.std.proofs.lemmas.Option.{same_Some, none-some, slice_get-map, slice_get-get_or, slice_get_past}
use Rattle.committee.specs.Charter.{Charter, IsCharter, numbers}
use Rattle.spec_model.specs.Holdings.{genesis}
use Rattle.spec_model.specs.Slots.{is_of_slot, slots_of}
use Rattle.spec_model.specs.Words.{Certificate}
use Rattle.spec_laws.proofs.Lists.{given_or_none, found_passes, Contains-nothing, Contains-cases}
use Rattle.spec_laws.proofs.Meeting.{mapped_from}
use Rattle.spec_laws.proofs.Votes.{slot_is, of_its_slot}
use Rattle.dag.specs.Graph.{slots_in, marked_in}
use Rattle.dag.specs.Kept.{Rows, entry_at, graph_of, IsKept, IsEntry}
use Rattle.dag.specs.Rows.{first}
use Rattle.dag.specs.declared.entry.Entry.{Entry}
use Rattle.dag.proofs.Entries.{entry_seen, nothing_seen}
use Rattle.dag.proofs.Slots.{at_place, mark_kept}

-- the row of the genesis
abbrev pub first_row : ℕ → List (Option Entry)
first_row size = map (λ author. Some (first author)) (numbers size)

abbrev pub first_rows : ℕ → Rows
first_rows size = first_row size ∷ []

slot_some : (size author : ℕ) → author < size → slice_get (first_row size) author ≡ Some (Some (first author))
slot_some size author within =
    let long = length-range_with_len 0 size in
    slice_get-map (λ a. Some (first a)) (numbers size) author
    ∙ ap (option_map (λ a. Some (first a))) (slice_get-get_or (numbers size) author 0 (omega (arith, long, within)) ∙ ap (λ a. Some a) (get_or-range_with_len 0 size author 0 within ∙ omega arith))

slot_none : (size author : ℕ) → size ≤ author → slice_get (first_row size) author ≡ None
slot_none size author past =
    let long = length-range_with_len 0 size in
    slice_get-map (λ a. Some (first a)) (numbers size) author ∙ ap (option_map (λ a. Some (first a))) (slice_get_past (numbers size) author (omega (arith, long, past)))

-- the genesis is there
pub first_there : (size author : ℕ) → author < size → entry_at 0 (first_rows size) 0 author ≡ Some (first author)
first_there size author within = ap (option_and_then (λ held. held)) (slot_some size author within)

-- what is there of the genesis, and nothing else is
pub record IsFirst (size round author : ℕ) (entry : Entry) : Type 0 where
  pub round_is : round ≡ 0
  pub member : author < size
  pub is : entry ≡ first author

no_row : {X : Type 0} (row : List (Option X)) (place author : ℕ) → 0 < place → at_place (row ∷ []) place author ≡ None
no_row row zero author some = absurd (omega (arith, some))
no_row row (suc place) author some = refl

pub first_only : (size round author : ℕ) (entry : Entry) → entry_at 0 (first_rows size) round author ≡ Some entry → IsFirst size round author entry
first_only size zero author entry is =
    elim (cases_lt author size) [
      | inl within ↦ record { round_is = refl; member = within; is = same_Some entry (first author) (sym is ∙ first_there size author within) }
      | inr past ↦ absurd (none-some entry (sym (ap (option_and_then (λ held. held)) (slot_none size author past)) ∙ is))
    ]
first_only size (suc round) author entry is =
    let within = le-leb 0 (suc round) (omega arith) in
    let at : at_place (first_rows size) (suc round - 0) author ≡ Some entry = (let is' = rw within at is in is') in
    absurd (none-some entry (sym (no_row (first_row size) (suc round - 0) author (omega arith)) ∙ at))

long_row : (from count : ℕ) → length (map (λ author. Some (first author)) (range_with_len from count)) ≡ count
long_row from zero = refl
long_row from (suc count) = ap suc (long_row (from + 1) count)

full_first : (size : ℕ) → All (λ row. length row ≡ size) (first_rows size)
full_first size zero d within = long_row 0 size
full_first size (suc k) d within = absurd (omega (arith, within))

-- it is kept as it has to be
pub first_kept : (charter : Charter) → IsCharter charter → IsKept charter 0 1 (first_rows (length charter.keys))
first_kept charter valid =
    let size = length charter.keys in
    record {
      valid = valid;
      low = omega arith;
      within = omega arith;
      few = omega arith;
      full = full_first size;
      entries = λ round author entry is.
          let of = first_only size round author entry is in
          let graph = graph_of charter 0 1 (first_rows size) in
          let here : IsEntry graph 0 author (first author) = record {
            place = of_its_slot (genesis author).header;
            digest = refl;
            held = refl;
            parents = λ above. absurd (omega (arith, above));
          } in
          subst (λ (e : Entry). IsEntry graph round author e) (sym of.is) (subst (λ r. IsEntry graph r author (first author)) (sym of.round_is) here);
    }

genesis_found : (from count author : ℕ) → from ≤ author → author < from + count → find (λ c. is_of_slot 0 author c.header) (map genesis (range_with_len from count)) ≡ Some (genesis author)
genesis_found from zero author least most = absurd (omega (arith, least, most))
genesis_found from (suc count) author least most =
    elim (cases_Bool (from == author)) [
      | inl here ↦ rw here (ap (λ a. Some (genesis a)) (eqb-true from author here))
      | inr other ↦ rw other (genesis_found (from + 1) count author (grind (arith, least, other)) (omega (arith, most)))
    ]

number_below : (from count k : ℕ) → Contains (range_with_len from count) k → k < from + count
number_below from zero k inside = absurd (Contains-nothing k inside)
number_below from (suc count) k inside =
    elim (Contains-cases from (range_with_len (from + 1) count) k inside) [
      | inl same ↦ omega (arith, same)
      | inr rest ↦ let less = number_below (from + 1) count k rest in omega (arith, less)
    ]

-- contracts see the slots of the genesis
pub first_slots : (charter : Charter) (base round author : ℕ)
    → slots_in (graph_of charter 0 base (first_rows (length charter.keys))) round author ≡ slots_of (map genesis (numbers (length charter.keys))) round author
first_slots charter base round author =
    let size = length charter.keys in
    elim (given_or_none (entry_at 0 (first_rows size) round author)) [
      | inl e ↦
          let of = first_only size round author e.0 e.1 in
          entry_seen charter 0 base (first_rows size) round author e.0 e.1 ∙ ap (λ (f : Entry). Some f.certificate) of.is
          ∙ sym (ap (λ r. slots_of (map genesis (numbers size)) r author) of.round_is ∙ genesis_found 0 size author (omega arith) (omega (arith, of.member)))
      | inr none ↦
          nothing_seen charter 0 base (first_rows size) round author none
          ∙ elim (given_or_none (slots_of (map genesis (numbers size)) round author)) [
            | inr nothing ↦ sym nothing
            | inl c ↦
                let found = found_passes (λ d. is_of_slot round author d.header) (map genesis (numbers size)) c.0 c.1 in
                let made = mapped_from genesis (numbers size) c.0 found.1 in
                let place = slot_is round author c.0.header found.0 in
                let less = number_below 0 size made.0 made.1 in
                let round_is : round ≡ 0 = sym place.0 ∙ ap (λ (d : Certificate). d.header.round) (sym made.2) in
                let author_is : author ≡ made.0 = sym place.1 ∙ ap (λ (d : Certificate). d.header.author.0) (sym made.2) in
                let there : entry_at 0 (first_rows size) round author ≡ Some (first author) =
                ap (λ r. entry_at 0 (first_rows size) r author) round_is ∙ first_there size author (omega (arith, author_is, less)) in
                absurd (none-some (first author) (sym none ∙ there))
          ]
    ]

-- and no marks
pub first_marks : (charter : Charter) (base round author : ℕ) → marked_in (graph_of charter 0 base (first_rows (length charter.keys))) round author ≡ false
first_marks charter base round author =
    let size = length charter.keys in
    mark_kept charter 0 base (first_rows size) round author
    ∙ elim (given_or_none (entry_at 0 (first_rows size) round author)) [
      | inl e ↦ ap (λ o. option_map_or (λ (f : Entry). f.marked) o false) e.1 ∙ ap (λ (f : Entry). f.marked) (first_only size round author e.0 e.1).is
      | inr none ↦ ap (λ o. option_map_or (λ (f : Entry). f.marked) o false) none
    ]
