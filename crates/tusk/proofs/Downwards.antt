-- The leaders that are committed with one, wave by wave downwards.
use Rattle.std.proofs.Common.{◌≡◌, ℕ, zero, suc, ◌+◌, ◌-◌, ◌<◌, ◌≤◌, Bool, true, false, List, [], ◌∷◌, ◌++◌, map, Some, None, inl, inr, refl, ap, sym, ◌∙◌, arith, reverse}
use Rattle.std.proofs.Math.Path.{fun_ext}
use Rattle.std.specs.Prelude.{nat_le, is_some}
use Rattle.std.specs.Option.{option_map_or}
use Rattle.std.proofs.lemmas.Bool.{le-leb}
use Rattle.std.proofs.lemmas.List.{append_assoc, map-append, reverse-append}
use Rattle.spec_model.specs.Ordering.{Ledger, reaches_in, leader, newer_to}
use Rattle.spec_model.specs.Slots.{reaches}
use Rattle.spec_model.specs.Words.{Author, Certificate}
use Rattle.spec_laws.proofs.Growing.{AreInPlace}
use Rattle.spec_laws.proofs.Lists.{given_or_none}
use Rattle.spec_laws.proofs.Votes.{slot_is}
use Rattle.dag.specs.Graph as dag
use Rattle.dag.proofs.Walking.{one_down}
use Rattle.tusk.specs.Chain.{ledger_in, slot_of}
use Rattle.tusk.proofs.Supporting.{IsLed}

-- the slots of the leaders that are committed with what a slot holds
abbrev pub newer_slots : Ledger → ℕ → ℕ → ℕ → ℕ → List (ℕ × Author)
newer_slots ledger base wave round author = option_map_or (λ c. map slot_of (newer_to ledger base wave c)) (ledger.slots round author) []

-- what a slot holds reaches a certificate
abbrev pub slot_reaches : Ledger → ℕ → ℕ → Certificate → Bool
slot_reaches ledger round author end = option_map_or (λ start. reaches_in ledger start end) (ledger.slots round author) false

young_wave : (base wave : ℕ) → base ≤ wave → nat_le (suc wave) base ≡ false
young_wave base wave low = grind (arith, low)

newer_end : (ledger : Ledger) (base wave : ℕ) (c : Certificate) → wave ≤ base → newer_to ledger base wave c ≡ c ∷ []
newer_end ledger base zero c within = refl
newer_end ledger base (suc wave) c within = rw (le-leb (suc wave) base within) refl

passed_by : (ledger : Ledger) (base wave round author : ℕ) → base ≤ wave → leader ledger (suc wave) ≡ None → newer_slots ledger base (suc wave) round author ≡ newer_slots ledger base wave round author
passed_by ledger base wave round author low none =
    let young = young_wave base wave low in
    elim (given_or_none (ledger.slots round author)) [
      | inl held ↦ rw (held.1, young, none) refl
      | inr nothing ↦ rw nothing refl
    ]

missed : (ledger : Ledger) (base wave round author : ℕ) (earlier : Certificate) → base ≤ wave → leader ledger (suc wave) ≡ Some earlier → slot_reaches ledger round author earlier ≡ false
    → newer_slots ledger base (suc wave) round author ≡ newer_slots ledger base wave round author
missed ledger base wave round author earlier low is apart =
    let young = young_wave base wave low in
    elim (given_or_none (ledger.slots round author)) [
      | inl held ↦ let apart' : reaches_in ledger held.0 earlier ≡ false = ap (λ o. option_map_or (λ start. reaches_in ledger start earlier) o false)
          (sym held.1) ∙ apart in rw (held.1, young, is, apart') refl
      | inr nothing ↦ rw nothing refl
    ]

reached : (ledger : Ledger) (base wave round : ℕ) (author : Author) (earlier : Certificate) → AreInPlace ledger.slots → base ≤ wave
    → leader ledger (suc wave) ≡ Some earlier → ledger.slots earlier.header.round earlier.header.author.0 ≡ Some earlier
    → slot_reaches ledger round author.0 earlier ≡ true
    → newer_slots ledger base (suc wave) round author.0 ≡ newer_slots ledger base wave earlier.header.round earlier.header.author.0 ++ (round, author) ∷ []
reached ledger base wave round author earlier placed low is held_earlier reaches =
    let young = young_wave base wave low in
    elim (given_or_none (ledger.slots round author.0)) [
      | inl held ↦
          let reaches' : reaches_in ledger held.0 earlier ≡ true = ap (λ o. option_map_or (λ start. reaches_in ledger start earlier) o false) (sym held.1) ∙ reaches in
          let place = slot_is round author.0 held.0.header (placed round author.0 held.0 held.1) in
          let same : slot_of held.0 ≡ (round, author) = ap (λ (r : ℕ). (r, held.0.header.author)) place.0 ∙ ap (λ (a : ℕ). (round, (let b : Author = record { 0 = a } in b))) place.1 in
          let all : newer_to ledger base (suc wave) held.0 ≡ newer_to ledger base wave earlier ++ held.0 ∷ [] = rw (young, is, reaches') refl in
          ap (λ o. option_map_or (λ c. map slot_of (newer_to ledger base (suc wave) c)) o []) held.1
          ∙ ap (map slot_of) all
          ∙ map-append slot_of (newer_to ledger base wave earlier) (held.0 ∷ [])
          ∙ ap (λ slot. map slot_of (newer_to ledger base wave earlier) ++ slot ∷ []) same
          ∙ ap (λ o. option_map_or (λ c. map slot_of (newer_to ledger base wave c)) o [] ++ (round, author) ∷ []) (sym held_earlier)
      | inr nothing ↦ let bad = rw nothing at reaches in absurd cc
    ]

-- ---- one wave after the other

-- a leader that was taken, after those of the waves above it, the newest first
pub step_taken : (graph : dag.DagView) (coins : List ℕ) (base left next round : ℕ) (author : Author) (slot : ℕ × Author)
    (taken all : List (ℕ × Author)) → AreInPlace (dag.slots_in graph) → left ≡ suc next → base ≤ next
    → IsLed (ledger_in graph coins) left slot.0 slot.1.0 → dag.reaches_in graph round author.0 slot.0 slot.1.0 ≡ true
    → newer_slots (ledger_in graph coins) base left round author.0 ++ reverse taken ≡ all
    → newer_slots (ledger_in graph coins) base next slot.0 slot.1.0 ++ reverse (taken ++ (round, author) ∷ []) ≡ all
step_taken graph coins base left next round author slot taken all placed is low led reaching so_far =
    let ledger = ledger_in graph coins in
    let x : ℕ × Author = (round, author) in
    let earlier = led.certificate in
    let leads : leader ledger (suc next) ≡ Some earlier = ap (leader ledger) (sym is) ∙ led.leads in
    let held : ledger.slots earlier.header.round earlier.header.author.0 ≡ Some earlier =
    ap (λ (r : ℕ). ledger.slots r earlier.header.author.0) led.same_round ∙ ap (ledger.slots slot.0) led.same_author ∙ led.held in
    let reaching' : slot_reaches ledger round author.0 earlier ≡ true =
    ap (λ o. option_map_or (λ start. option_map_or (reaches (dag.size_in graph) (dag.slots_in graph) start) o false) (dag.slots_in graph round author.0) false) (sym led.held) ∙ reaching in
    let here : newer_slots ledger base left round author.0 ≡ newer_slots ledger base next slot.0 slot.1.0 ++ x ∷ [] =
    ap (λ w. newer_slots ledger base w round author.0) is ∙ reached ledger base next round author earlier placed low leads held reaching'
    ∙ ap (λ (r : ℕ). newer_slots ledger base next r earlier.header.author.0 ++ x ∷ []) led.same_round ∙ ap (λ (a : ℕ). newer_slots ledger base next slot.0 a ++ x ∷ []) led.same_author in
    ap (λ l. newer_slots ledger base next slot.0 slot.1.0 ++ l) (reverse-append taken (x ∷ []))
    ∙ sym (append_assoc (newer_slots ledger base next slot.0 slot.1.0) (x ∷ []) (reverse taken))
    ∙ ap (λ l. l ++ reverse taken) (sym here)
    ∙ so_far

-- one that isn't reached is passed
pub step_missed : (graph : dag.DagView) (coins : List ℕ) (base left next round author : ℕ) (slot : ℕ × Author) (taken all : List (ℕ × Author)) → left ≡ suc next → base ≤ next
    → IsLed (ledger_in graph coins) left slot.0 slot.1.0 → dag.reaches_in graph round author slot.0 slot.1.0 ≡ false
    → newer_slots (ledger_in graph coins) base left round author ++ reverse taken ≡ all
    → newer_slots (ledger_in graph coins) base next round author ++ reverse taken ≡ all
step_missed graph coins base left next round author slot taken all is low led apart so_far =
    let ledger = ledger_in graph coins in
    let earlier = led.certificate in
    let leads : leader ledger (suc next) ≡ Some earlier = ap (leader ledger) (sym is) ∙ led.leads in
    let apart' : slot_reaches ledger round author earlier ≡ false =
    ap (λ o. option_map_or (λ start. option_map_or (reaches (dag.size_in graph) (dag.slots_in graph) start) o false) (dag.slots_in graph round author) false) (sym led.held) ∙ apart in
    let here : newer_slots ledger base left round author ≡ newer_slots ledger base next round author =
    ap (λ w. newer_slots ledger base w round author) is ∙ missed ledger base next round author earlier low leads apart' in
    ap (λ l. l ++ reverse taken) (sym here) ∙ so_far

-- so is a wave without one
pub step_passed : (graph : dag.DagView) (coins : List ℕ) (base left next round author : ℕ) (taken all : List (ℕ × Author)) → left ≡ suc next → base ≤ next → leader (ledger_in graph coins) left ≡ None
    → newer_slots (ledger_in graph coins) base left round author ++ reverse taken ≡ all
    → newer_slots (ledger_in graph coins) base next round author ++ reverse taken ≡ all
step_passed graph coins base left next round author taken all is low none so_far =
    let ledger = ledger_in graph coins in
    let here : newer_slots ledger base left round author ≡ newer_slots ledger base next round author =
    ap (λ w. newer_slots ledger base w round author) is ∙ passed_by ledger base next round author low (ap (leader ledger) (sym is) ∙ none) in
    ap (λ l. l ++ reverse taken) (sym here) ∙ so_far

-- at the end the one that was taken last is the oldest
pub step_last : (ledger : Ledger) (base left round : ℕ) (author : Author) (taken all : List (ℕ × Author)) → AreInPlace ledger.slots → left ≤ base → is_some (ledger.slots round author.0) ≡ true
    → newer_slots ledger base left round author.0 ++ reverse taken ≡ all → reverse (taken ++ (round, author) ∷ []) ≡ all
step_last ledger base left round author taken all placed low there so_far =
    let x : ℕ × Author = (round, author) in
    elim (given_or_none (ledger.slots round author.0)) [
      | inl held ↦
          let place = slot_is round author.0 held.0.header (placed round author.0 held.0 held.1) in
          let same : slot_of held.0 ≡ x = ap (λ (r : ℕ). (r, held.0.header.author)) place.0 ∙ ap (λ (a : ℕ). (round, (let b : Author = record { 0 = a } in b))) place.1 in
          let alone : newer_slots ledger base left round author.0 ≡ x ∷ [] =
          ap (λ o. option_map_or (λ c. map slot_of (newer_to ledger base left c)) o []) held.1 ∙ ap (map slot_of) (newer_end ledger base left held.0 low) ∙ ap (λ slot. slot ∷ []) same in
          reverse-append taken (x ∷ []) ∙ ap (λ l. l ++ reverse taken) (sym alone) ∙ so_far
      | inr none ↦ let bad = rw none at there in absurd cc
    ]

-- ---- one round down

-- whom those reach whom a slot reaches in a round
pub stepped : (graph : dag.DagView) → dag.IsGraph graph → (start author round : ℕ) (above : ℕ → Bool) → 0 < round → round ≤ start
    → ((other : ℕ) → above other ≡ dag.reaches_in graph start author round other) → (other : ℕ)
    → dag.is_parent_of graph round (round - 1) above other ≡ dag.reaches_in graph start author (round - 1) other
stepped graph is start author round above some within so_far other =
    let level : round ≡ (round - 1) + 1 = omega (arith, some) in
    ap (λ r. dag.is_parent_of graph r (round - 1) above other) level
    ∙ ap (λ (f : ℕ → Bool). dag.is_parent_of graph ((round - 1) + 1) (round - 1) f other) (fun_ext (λ a. so_far a ∙ ap (λ r. dag.reaches_in graph start author r a) level))
    ∙ one_down graph is start author (round - 1) other (omega (arith, some, within))
