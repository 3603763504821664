-- There is a DAG with a new certificate more.
use Rattle.std.proofs.Common.{◌≡◌, ℕ, zero, suc, ◌+◌, ◌-◌, ◌<◌, ◌≤◌, max, true, false, List, [], ◌∷◌, map, length, Option, Some, None, inl, inr, refl, ap, sym, ◌∙◌, arith}
use Rattle.std.specs.Prelude.{Bool, nat_lt, nat_le, option_map, slice_get, Ok, if◌then◌else◌}
use Rattle.std.specs.List.{range_with_len, list_all}
use Rattle.std.specs.Option.{option_map_or, option_or}
use Rattle.std.proofs.lemmas.Bool.{cases_Bool, cases_lt, and_parts, leb-true, le-leb}
use Rattle.std.proofs.lemmas.Grind.{common_steps}
use Rattle.std.proofs.lemmas.List.FromFn.{length-map-range_with_len}
use Rattle.std.proofs.lemmas.Option.{none-some, slice_get-map, slice_get_past}
use Rattle.spec_model.specs.Holdings.{is_low, is_held}
use Rattle.spec_model.specs.Slots.{is_of_slot, slots_of}
use Rattle.spec_model.specs.Words.{Certificate, ParentReference}
use Rattle.spec_laws.proofs.Lists.{given_or_none}
use Rattle.spec_laws.proofs.Votes.{slot_is}
use Rattle.dag.specs.Answer.{answer}
use Rattle.dag.specs.Changes.{IsWith}
use Rattle.dag.specs.Graph.{DagView, IsGraph, Placed, row_at, placed_at, size_in, slots_in, marked_in, end_in}
use Rattle.dag.specs.declared.answers.Added.TheVariants.{New}
use Rattle.dag.proofs.Answering.{is_new}

-- rows of what a function gives
abbrev table : (ℕ → ℕ → Option Placed) → ℕ → ℕ → ℕ → List (List (Option Placed))
table given floor count size = map (λ round. map (given round) (range_with_len 0 size)) (range_with_len floor count)

in_range : (from count i : ℕ) → i < count → slice_get (range_with_len from count) i ≡ Some (from + i)
in_range from zero i within = absurd (omega (arith, within))
in_range from (suc count) zero within = ap (λ k. Some k) (omega arith)
in_range from (suc count) (suc i) within = in_range (from + 1) count i (omega (arith, within)) ∙ ap (λ k. Some k) (omega arith)

past_range : (from count i : ℕ) → count ≤ i → slice_get (range_with_len from count) i ≡ None
past_range from zero i past = refl
past_range from (suc count) zero past = absurd (omega (arith, past))
past_range from (suc count) (suc i) past = past_range (from + 1) count i (omega (arith, past))

in_table : (given : ℕ → ℕ → Option Placed) (floor count size round author : ℕ) → floor ≤ round → round < floor + count → author < size
    → row_at floor (table given floor count size) round author ≡ given round author
in_table given floor count size round author above within member =
    let above' = le-leb floor round above in
    let is : floor + (round - floor) ≡ round = omega (arith, above) in
    let row : slice_get (table given floor count size) (round - floor) ≡ Some (map (given round) (range_with_len 0 size)) =
    slice_get-map (λ r. map (given r) (range_with_len 0 size)) (range_with_len floor count) (round - floor)
    ∙ ap (option_map (λ r. map (given r) (range_with_len 0 size))) (in_range floor count (round - floor) (omega (arith, above, within)) ∙ ap (λ k. Some k) is) in
    let slot : slice_get (map (given round) (range_with_len 0 size)) author ≡ Some (given round author) =
    slice_get-map (given round) (range_with_len 0 size) author ∙ ap (option_map (given round)) (in_range 0 size author member ∙ ap (λ k. Some k) (omega arith)) in
    rw (above', row, slot) refl

past_table : (given : ℕ → ℕ → Option Placed) (floor count size round author : ℕ) → (floor + count ≤ round) → row_at floor (table given floor count size) round author ≡ None
past_table given floor count size round author past =
    let above' = le-leb floor round (omega (arith, past)) in
    let row : slice_get (table given floor count size) (round - floor) ≡ None =
    slice_get-map (λ r. map (given r) (range_with_len 0 size)) (range_with_len floor count) (round - floor)
    ∙ ap (option_map (λ r. map (given r) (range_with_len 0 size))) (past_range floor count (round - floor) (omega (arith, past))) in
    rw (above', row) refl

beside_table : (given : ℕ → ℕ → Option Placed) (floor count size round author : ℕ) → floor ≤ round → round < floor + count → size ≤ author
    → row_at floor (table given floor count size) round author ≡ None
beside_table given floor count size round author above within other =
    let above' = le-leb floor round above in
    let is : floor + (round - floor) ≡ round = omega (arith, above) in
    let row : slice_get (table given floor count size) (round - floor) ≡ Some (map (given round) (range_with_len 0 size)) =
    slice_get-map (λ r. map (given r) (range_with_len 0 size)) (range_with_len floor count) (round - floor)
    ∙ ap (option_map (λ r. map (given r) (range_with_len 0 size))) (in_range floor count (round - floor) (omega (arith, above, within)) ∙ ap (λ k. Some k) is) in
    let slot : slice_get (map (given round) (range_with_len 0 size)) author ≡ None =
    slice_get-map (given round) (range_with_len 0 size) author ∙ ap (option_map (given round)) (past_range 0 size author other) in
    rw (above', row, slot) refl

under_table : (rows : List (List (Option Placed))) (floor round author : ℕ) → round < floor → row_at floor rows round author ≡ None
under_table rows floor round author below =
    let below' : nat_le floor round ≡ false = not_within floor round below in
    rw below' refl
  where
    not_within : (one other : ℕ) → other < one → nat_le one other ≡ false
    not_within one other less = grind (arith, less)

-- ---- a DAG's slots lie within its rows

nothing_placed : (graph : DagView) (round author : ℕ) → slots_in graph round author ≡ None → placed_at graph round author ≡ None
nothing_placed graph round author none = on (placed_at graph round author) none
  where
    on : (placed : Option Placed) → option_map (λ p. p.certificate) placed ≡ None → placed ≡ None
    on None is = refl
    on (Some p) is = absurd cc

-- what is after the last row isn't held
pub placed_within : (graph : DagView) (round author : ℕ) → end_in graph ≤ round → placed_at graph round author ≡ None
placed_within graph round author past =
    let above = le-leb graph.floor round (omega (arith, past)) in
    let row = slice_get_past graph.rounds (round - graph.floor) (omega (arith, past)) in
    rw (above, row) refl

-- ---- with a certificate

-- what the slots hold then
abbrev given_with : DagView → Certificate → ℕ → ℕ → Option Placed
given_with graph certificate round author =
    option_or (placed_at graph round author) (if is_of_slot round author certificate.header then Some (record { certificate = certificate; marked = false }) else None)

abbrev with_count : DagView → Certificate → ℕ
with_count graph certificate = max (length graph.rounds) (certificate.header.round + 1 - graph.floor)

abbrev pub with_one : DagView → Certificate → DagView
with_one graph certificate = record {
  charter = graph.charter;
  floor = graph.floor;
  base = graph.base;
  rounds = table (given_with graph certificate) graph.floor (with_count graph certificate) (size_in graph);
}

placed_with : (graph : DagView) (certificate : Certificate) → IsGraph graph → graph.floor ≤ certificate.header.round → certificate.header.author.0 < size_in graph → (round author : ℕ)
    → placed_at (with_one graph certificate) round author ≡ given_with graph certificate round author
placed_with graph certificate sound high member round author =
    let count = with_count graph certificate in
    let given = given_with graph certificate in
    elim (cases_lt round graph.floor) [
      | inl below ↦
          under_table (table given graph.floor count (size_in graph)) graph.floor round author below
          ∙ sym (elsewhere (under_table graph.rounds graph.floor round author below) (λ same. omega (arith, same.0, high, below)))
      | inr above ↦ elim (cases_lt round (graph.floor + count)) [
        | inr past ↦
            past_table given graph.floor count (size_in graph) round author past
            ∙ sym (elsewhere (placed_within graph round author (omega (arith, past))) (λ same. omega (arith, same.0, high, past)))
        | inl within ↦ elim (cases_lt author (size_in graph)) [
          | inl inside ↦ in_table given graph.floor count (size_in graph) round author above within inside
          | inr outside ↦
              beside_table given graph.floor count (size_in graph) round author above within outside
              ∙ sym (elsewhere (nothing_placed graph round author (no_member outside)) (λ same. omega (arith, same.1, member, outside)))
        ]
      ]
    ]
  where
    elsewhere : placed_at graph round author ≡ None → ((certificate.header.round ≡ round) × (certificate.header.author.0 ≡ author) → ⊥) → given_with graph certificate round author ≡ None
    elsewhere none apart =
        elim (cases_Bool (is_of_slot round author certificate.header)) [
          | inl here ↦ absurd (apart (slot_is round author certificate.header here))
          | inr other ↦ rw (none, other) refl
        ]

    no_member : size_in graph ≤ author → slots_in graph round author ≡ None
    no_member outside =
        elim (given_or_none (slots_in graph round author)) [
          | inr none ↦ none
          | inl found ↦ let inside = sound.of_members round author found.0 found.1 in absurd (omega (arith, inside, outside))
        ]

-- a certificate with a parent that is held or low is of the next round at most
near_by : (graph : DagView) (round : ℕ) (parents : List ParentReference) → 0 < length parents → list_all (is_held (slots_in graph) graph.floor round)
    parents ≡ true → round ≤ max (end_in graph) (graph.floor + 1)
near_by graph round [] some all = absurd (omega (arith, some))
near_by graph round (p ∷ parents) some all =
    let held : is_held (slots_in graph) graph.floor round p ≡ true = (and_parts (is_held (slots_in graph) graph.floor round p) (list_all (is_held (slots_in graph) graph.floor round) parents) all).0 in
    elim (given_or_none (slots_in graph (round - 1) p.author.0)) [
      | inr none ↦
          let low = rw none at held in
          let within = leb-true (round - 1) graph.floor (and_parts (nat_lt 0 graph.floor) (nat_le (round - 1) graph.floor) low).1 in
          omega (arith, within)
      | inl found ↦ elim (cases_lt (round - 1) (end_in graph)) [
        | inl before ↦ omega (arith, before)
        | inr past ↦ absurd (none-some found.0 (sym (ap (option_map (λ (x : Placed). x.certificate)) (placed_within graph (round - 1) p.author.0 past)) ∙ found.1))
      ]
    ]

high_above : (floor round : ℕ) → is_low floor round ≡ false → floor ≤ round
high_above floor round high = grind (arith, high, common_steps)

pub there_is : (graph : DagView) (certificate : Certificate) → IsGraph graph → certificate.header.author.0 < size_in graph
    → 0 < length certificate.header.parents → answer graph certificate ≡ Ok New → IsWith graph (with_one graph certificate) certificate
there_is graph certificate sound member named new =
    let fresh = is_new graph certificate new in
    let high = high_above graph.floor certificate.header.round fresh.high in
    let placed = placed_with graph certificate sound high member in
    let long = length-map-range_with_len (λ round. map (given_with graph certificate round) (range_with_len 0 (size_in graph))) graph.floor (with_count graph certificate) in
    record {
      charter = refl;
      floor = refl;
      base = refl;
      slots = λ round author. ap (option_map (λ (p : Placed). p.certificate)) (placed round author) ∙ slot_with round author;
      marked = λ round author. ap (λ o. option_map_or (λ (p : Placed). p.marked) o false) (placed round author) ∙ mark_with round author;
      end = ends high long;
      near = near_by graph certificate.header.round certificate.header.parents named fresh.held;
    }
  where
    cases : (o : Option Placed) (b : Bool) → option_map (λ p. p.certificate) (option_or o (if b then Some (record { certificate = certificate; marked = false }) else None))
        ≡ option_or (option_map (λ p. p.certificate) o) (if b then Some certificate else None)
    cases (Some p) b = refl
    cases None true = refl
    cases None false = refl

    marks : (o : Option Placed) (b : Bool)
        → option_map_or (λ p. p.marked) (option_or o (if b then Some (record { certificate = certificate; marked = false }) else None)) false
        ≡ option_map_or (λ p. p.marked) o false
    marks (Some p) b = refl
    marks None true = refl
    marks None false = refl

    slot_with : (round author : ℕ) → option_map (λ p. p.certificate) (given_with graph certificate round author) ≡ option_or (slots_in graph round author) (slots_of (certificate ∷ []) round author)
    slot_with round author = cases (placed_at graph round author) (is_of_slot round author certificate.header)

    mark_with : (round author : ℕ) → option_map_or (λ p. p.marked) (given_with graph certificate round author) false ≡ marked_in graph round author
    mark_with round author = marks (placed_at graph round author) (is_of_slot round author certificate.header)

    ends : graph.floor ≤ certificate.header.round → length (table (given_with graph certificate) graph.floor (with_count graph certificate) (size_in graph)) ≡ with_count graph certificate
        → end_in (with_one graph certificate) ≡ max (end_in graph) (certificate.header.round + 1)
    ends high long = omega (arith, high, long)
