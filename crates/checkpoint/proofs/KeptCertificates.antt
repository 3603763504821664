-- The certificates of a checkpoint are those of the state above the genesis, which a state has where its floor is 0.
use Rattle.std.proofs.Common.{◌≡◌, ◌⊎◌, ℕ, ◌-◌, ◌*◌, ◌<◌, ◌≤◌, Bool, List, [], ◌∷◌, map, max, Some, None, inl, inr, refl, sym, ap, ◌∙◌, arith}
use Rattle.std.specs.Prelude.{◌==◌, All, AllPairs, Contains, fold, if◌then◌else◌}
use Rattle.std.specs.Option.{option_map_or}
use Rattle.std.proofs.lemmas.Bool.{cases_Bool, cases_lt, eqb-true, eq-eqb, true≢false}
use Rattle.std.proofs.lemmas.List.Elements.{All-contains}
use Rattle.committee.specs.Charter.{numbers}
use Rattle.sequencer.proofs.Waves.{listed_is_enough}
use Rattle.sequencer.specs.Restored.{Digested, AreListed, HoldsListed}
use Rattle.spec_laws.proofs.Lists.{Contains-first, Contains-later, found_passes, given_or_none}
use Rattle.spec_laws.proofs.Meeting.{mapped_from}
use Rattle.spec_laws.proofs.Proposed.{number_below}
use Rattle.spec_laws.proofs.Votes.{slot_is, of_its_slot}
use Rattle.spec_machine.proofs.FreshSound.{genesis_found}
use Rattle.spec_machine.proofs.Grown.{each_within}
use Rattle.spec_machine.specs.Sound.{AreCertificates}
use Rattle.spec_model.specs.Holdings.{genesis, ledger_of}
use Rattle.spec_model.specs.Nodes.{Node, size_of}
use Rattle.spec_model.specs.Ordering.{floor_by}
use Rattle.spec_model.specs.Slots.{Slots, is_of_slot, slots_of}
use Rattle.spec_model.specs.States.{State, floor_in, highest_of}
use Rattle.spec_model.specs.Words.{Certificate}
use Rattle.spec_checkpoint.specs.Data.{IsKeptCertificate, place_before}
use Rattle.checkpoint.specs.Kept.{certificate_of}
use Rattle.checkpoint.proofs.Rising.{all_by, all_mapped, found_itself, pairs_mapped, places_apart, Before}

abbrev certificate_before : Certificate → Certificate → Bool
certificate_before one other = place_before one.header.round one.header.author.0 other.header.round other.header.author.0

-- the greatest round is the one that it begins with, or that of a certificate
reached_by : (most : ℕ) (certificates : List Certificate)
    → (fold max most (map (λ (d : Certificate). d.header.round) certificates) ≡ most)
    ⊎ ((c : Certificate) × Contains certificates c × (c.header.round ≡ fold max most (map (λ (d : Certificate). d.header.round) certificates)))
reached_by most [] = inl refl
reached_by most (d ∷ rest) = elim (reached_by (max most d.header.round) rest) [
  | inr one ↦ inr (one.0, Contains-later d rest one.0 one.1, one.2)
  | inl same ↦ elim (cases_lt most d.header.round) [
    | inl less ↦ inr (d, Contains-first rest d, (let it = same in grind (arith, it, less)))
    | inr past ↦ inl (let it = same in grind (arith, it, past))
  ]
]

module _ (node : Node) (state : State) (held : List Digested) (coins : List ℕ) (sound : AreCertificates node state) (coins_are : coins ≡ state.coins)
    (are : AreListed held) (has_them : HoldsListed state.slots held) where
  abbrev certificates : List Certificate
  certificates = map certificate_of held

  -- the floor is that of what is listed
  pub same_floor : floor_by (ledger_of node (slots_of certificates) coins) ≡ floor_in node state
  same_floor = ap (λ o. option_map_or (λ wave. (2 * wave - 1) - node.charter.depth) o 0)
      (sym (listed_is_enough node.charter held coins state.slots has_them))
      ∙ ap (λ (v : List ℕ). floor_by (ledger_of node state.slots v)) coins_are

  abbrev slots_there : Slots
  slots_there round author =
      if round == 0 then (if floor_by (ledger_of node (slots_of certificates) coins) == 0 then slots_of (map genesis (numbers (size_of node))) 0 author else None)
      else slots_of certificates round author

  -- at round 0 there is the genesis where the floor is 0, and else nothing
  no_stranger : (author : ℕ) → size_of node ≤ author → slots_of (map genesis (numbers (size_of node))) 0 author ≡ None
  no_stranger author outside = elim (given_or_none (slots_of (map genesis (numbers (size_of node))) 0 author)) [
    | inr none ↦ none
    | inl found ↦
        let it = found_passes (λ d. is_of_slot 0 author d.header) (map genesis (numbers (size_of node))) found.0 found.1 in
        let from = mapped_from genesis (numbers (size_of node)) found.0 it.1 in
        let by : from.0 ≡ author = ap (λ (d : Certificate). d.header.author.0) from.2 ∙ (slot_is 0 author found.0.header it.0).1 in
        let below = number_below 0 (size_of node) from.0 from.1 in
        absurd (omega (arith, below, by, outside))
  ]

  at_first : (author : ℕ) → (if floor_by (ledger_of node (slots_of certificates) coins) == 0 then slots_of (map genesis (numbers (size_of node))) 0 author else None) ≡ state.slots 0 author
  at_first author = elim (cases_Bool (floor_by (ledger_of node (slots_of certificates) coins) == 0)) [
    | inl none ↦
        let zeroth : floor_in node state ≡ 0 = sym same_floor ∙ eqb-true (floor_by (ledger_of node (slots_of certificates) coins)) 0 none in
        rw none (elim (cases_lt author (size_of node)) [
          | inl member ↦ genesis_found 0 (size_of node) author (omega arith) (omega (arith, member)) ∙ sym (sound.genesis zeroth author member)
          | inr stranger ↦ no_stranger author stranger ∙ elim (given_or_none (state.slots 0 author)) [
            | inr nothing ↦ sym nothing
            | inl found ↦ let member = sound.of_members 0 author found.0 found.1 in absurd (omega (arith, member, stranger))
          ]
        ])
    | inr some ↦
        rw some (elim (given_or_none (state.slots 0 author)) [
          | inr nothing ↦ sym nothing
          | inl found ↦
              let least = sound.above 0 author found.0 found.1 in
              let zeroth : floor_by (ledger_of node (slots_of certificates) coins) ≡ 0 = same_floor ∙ lowest (floor_in node state) least in
              absurd (true≢false (sym (eq-eqb (floor_by (ledger_of node (slots_of certificates) coins)) 0 zeroth) ∙ some))
        ])
  ]
    where
      lowest : (n : ℕ) → n ≤ 0 → n ≡ 0
      lowest n least = omega (arith, least)

  pub same_slots : (round author : ℕ) → slots_there round author ≡ state.slots round author
  same_slots round author = elim (cases_Bool (round == 0)) [
    | inl first ↦ (let is = eqb-true round 0 first in rw first (at_first author ∙ ap (λ r. state.slots r author) (sym is)))
    | inr above ↦ (let positive : 0 < round = grind (arith, above) in rw above (sym (has_them round author positive)))
  ]

  -- ---- what is listed

  rising : AllPairs (Before certificate_before) certificates
  rising = pairs_mapped certificate_of (Before certificate_before) held are.rising

  positive : (c : Certificate) → Contains certificates c → 0 < c.header.round
  positive c inside = All-contains (λ (d : Certificate). 0 < d.header.round) certificates c (all_mapped certificate_of (λ (d : Certificate). 0 < d.header.round) held are.positive) inside

  is_held : (c : Certificate) → Contains certificates c → state.slots c.header.round c.header.author.0 ≡ Some c
  is_held c inside =
      has_them c.header.round c.header.author.0 (positive c inside)
      ∙ found_itself certificate_before (λ (d : Certificate). is_of_slot c.header.round c.header.author.0 d.header) certificates c rising inside (of_its_slot c.header)
      (λ y before. places_apart y.header.round y.header.author.0 c.header.round c.header.author.0 before)

  pub certificates_rise : AllPairs (Before certificate_before) certificates
  certificates_rise = rising

  pub kept_certificates_are : All IsKeptCertificate certificates
  kept_certificates_are = all_by IsKeptCertificate certificates (λ c inside.
      let above = positive c inside in
      record {
        certificate = elim (sound.passed c.header.round c.header.author.0 c (is_held c inside)) [
          | inl first ↦ absurd (omega (arith, above, ap (λ (d : Certificate). d.header.round) first))
          | inr received ↦ received.passed.message
        ];
        above = above;
      })

  -- ---- the greatest round

  at_most : highest_of certificates ≤ state.highest
  at_most = elim (reached_by 0 certificates) [
    | inl none ↦ omega (arith, none)
    | inr one ↦ (let most = sound.highest one.0.header.round one.0.header.author.0 one.0 (is_held one.0 one.1) in let is = one.2 in omega (arith, most, is))
  ]

  at_least : state.highest ≤ highest_of certificates
  at_least = elim (cases_lt 0 state.highest) [
    | inr none ↦ omega (arith, none)
    | inl some ↦
        let reached = sound.reached in
        let found = sym (has_them state.highest reached.0 some) ∙ reached.2 in
        let passes = found_passes (λ (d : Certificate). is_of_slot state.highest reached.0 d.header) certificates reached.1 found in
        let round = (slot_is state.highest reached.0 reached.1.header passes.0).0 in
        let within = each_within 0 certificates reached.1 passes.1 in
        omega (arith, round, within)
  ]

  pub same_highest : highest_of certificates ≡ state.highest
  same_highest = let most = at_most in let least = at_least in omega (arith, most, least)
