-- The certificates of a DAG above the genesis, as they are listed.
use Rattle.std.proofs.Common.{◌≡◌, ℕ, ◌<◌, Bool, true, false, List, [], ◌∷◌, map, length, get_or, Option, Some, None, inl, inr, refl, ap, sym, ◌∙◌, subst, arith}
use Rattle.std.specs.Prelude.{All, AllPairs, filter, find, option_map, option_and_then}
use Rattle.std.proofs.lemmas.Bool.{cases_Bool, ltb-true, true≢false}
use Rattle.std.proofs.lemmas.Grind.{common_steps}
use Rattle.std.proofs.lemmas.List.{get_or-map, length-map}
use Rattle.std.proofs.lemmas.List.Elements.{All-cons, All-map}
use Rattle.std.proofs.lemmas.List.Kept.{AllPairs-filter}
use Rattle.committee.specs.Charter.{Charter}
use Rattle.spec_machine.specs.Machine.{last_leader}
use Rattle.spec_model.specs.Ordering.{leader, top}
use Rattle.spec_model.specs.Slots.{certificate_digest}
use Rattle.spec_model.specs.Words.{Certificate}
use Rattle.dag.specs.Graph.{DagView, IsGraph, certificates_in, slots_in}
use Rattle.tusk.specs.Chain.{ledger_in, slot_of}
use Rattle.sequencer.specs.Listing.{ledger_of}
use Rattle.sequencer.proofs.Waves.{listed_is_enough}
use Rattle.sequencer.specs.Restored.{Digested, AreListed, HoldsListed, is_before}
use Rattle.checkpoint.specs.Parts.{above_genesis, digested, is_above}
use Rattle.checkpoint.proofs.Rows.{at, comes_first, found_in, they_rise}

pairs-map : {X Y : Type 0} (R : Y → Y → Type 0) (f : X → Y) (xs : List X) (inside : X) → AllPairs (λ one other. R (f one) (f other)) xs → AllPairs R (map f xs)
pairs-map R f xs inside pairs = λ i j d less within.
    let long = length-map xs f in
    let second : j < length xs = omega (arith, within, long) in
    let first : i < length xs = omega (arith, less, second) in
    subst (λ y. R y (get_or (map f xs) j d)) (sym (get_or-map f xs i inside d first))
    (subst (λ y. R (f (get_or xs i inside)) y) (sym (get_or-map f xs j inside d second)) (pairs i j inside less second))

passing : {X : Type 0} (test : X → Bool) (xs : List X) → All (λ x. test x ≡ true) (filter test xs)
passing test [] = λ i d within. absurd (omega (arith, within))
passing test (x ∷ xs) =
    elim (cases_Bool (test x)) [
      | inl so ↦ rw so (All-cons (λ y. test y ≡ true) x (filter test xs) so (passing test xs))
      | inr no' ↦ rw no' (passing test xs)
    ]

-- what passes a narrower test is found among what passes a wider one
find-filter : {X : Type 0} (narrow wide : X → Bool) (xs : List X) → ((x : X) → narrow x ≡ true → wide x ≡ true) → find narrow (filter wide xs) ≡ find narrow xs
find-filter narrow wide [] within = refl
find-filter narrow wide (x ∷ xs) within =
    elim (cases_Bool (wide x)) [
      | inl so ↦ rw so (elim (cases_Bool (narrow x)) [
        | inl here ↦ rw here refl
        | inr other ↦ rw other (find-filter narrow wide xs within)
      ])
      | inr not ↦
          let other : narrow x ≡ false = elim (cases_Bool (narrow x)) [
            | inl here ↦ absurd (true≢false (sym (within x here) ∙ not))
            | inr apart ↦ apart
          ] in
          rw not (rw other (find-filter narrow wide xs within))
    ]

undigested : (certificates : List Certificate) → map (λ (one : Digested). one.0) (map digested certificates) ≡ certificates
undigested [] = refl
undigested (c ∷ certificates) = ap (λ l. c ∷ l) (undigested certificates)

is_later : (round author : ℕ) → 0 < round → (c : Certificate) → at round author c ≡ true → is_above c ≡ true
is_later round author positive c here = grind (arith, positive, here, common_steps)

some_one : (list : List Certificate) → 0 < length list → Certificate
some_one [] some = absurd (omega (arith, some))
some_one (c ∷ list) some = c

pub listed_above : (graph : DagView) → IsGraph graph → AreListed (above_genesis graph)
listed_above graph is =
    let above = filter is_above (certificates_in graph) in
    let rise : AllPairs (λ one other. comes_first one other ≡ true) above = AllPairs-filter (λ one other. comes_first one other ≡ true) is_above (certificates_in graph) (they_rise graph is) in
    record {
      rising = λ i j d less within.
          let long = length-map above digested in
          pairs-map (λ one other. is_before one other ≡ true) digested above (some_one above (omega (arith, within, long))) rise i j d less within;
      positive = All-map (λ (one : Digested). 0 < one.0.header.round) digested above
          (λ i d within. let passes = passing is_above (certificates_in graph) i d within in ltb-true 0 (get_or above i d).header.round passes);
      digested = All-map (λ (one : Digested). one.1 ≡ certificate_digest one.0.header) digested above (λ i d within. refl);
    }

pub holds_above : (graph : DagView) → IsGraph graph → HoldsListed (slots_in graph) (above_genesis graph)
holds_above graph is round author positive =
    let above = filter is_above (certificates_in graph) in
    sym (ap (find (at round author)) (undigested above)
    ∙ find-filter (at round author) is_above (certificates_in graph) (is_later round author positive)
    ∙ found_in graph is round author)

-- the last leader is that of the last wave that is found in the list
pub led_by : (graph : DagView) (coins : List ℕ) (charter : Charter) (held : List Digested) (wave : Option ℕ) → IsGraph graph → charter ≡ graph.charter → held ≡ above_genesis graph
    → top (ledger_of charter held coins) ≡ wave
    → option_and_then (λ w. option_map slot_of (leader (ledger_in graph coins) w)) wave ≡ option_map slot_of (last_leader (ledger_in graph coins))
led_by graph coins charter held wave is members listing found =
    let same : top (ledger_in graph coins) ≡ wave =
    listed_is_enough graph.charter (above_genesis graph) coins (slots_in graph) (holds_above graph is)
    ∙ ap (λ (c : Charter). top (ledger_of c (above_genesis graph) coins)) (sym members)
    ∙ ap (λ (l : List Digested). top (ledger_of charter l coins)) (sym listing) ∙ found in
    and_mapped wave ∙ ap (λ o. option_map slot_of (option_and_then (leader (ledger_in graph coins)) o)) (sym same)
  where
    and_mapped : (o : Option ℕ) → option_and_then (λ w. option_map slot_of (leader (ledger_in graph coins) w)) o ≡ option_map slot_of (option_and_then (leader (ledger_in graph coins)) o)
    and_mapped (Some w) = refl
    and_mapped None = refl
