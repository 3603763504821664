-- After a step from a sound state the certificates are as they have to be.
use Rattle.std.proofs.Common.{◌≡◌, ℕ, suc, ◌-◌, ◌*◌, ◌<◌, ◌≤◌, max, false, [], ◌∷◌, Option, Some, None, ◌⊎◌, inl, inr, ap, ◌∙◌, subst, arith}
use Rattle.std.specs.Prelude.{if◌then◌else◌}
use Rattle.std.specs.Option.{option_to_list}
use Rattle.std.proofs.lemmas.Bool.{cases_lt}
use Rattle.std.proofs.lemmas.Grind.{common_steps}
use Rattle.std.proofs.lemmas.Option.{same_Some}
use Rattle.spec_model.specs.Holdings.{genesis, is_low}
use Rattle.spec_model.specs.Nodes.{Node, size_of}
use Rattle.spec_model.specs.Ordering.{top}
use Rattle.spec_model.specs.Slots.{slots_of}
use Rattle.spec_model.specs.States.{State, ledger_in, floor_in}
use Rattle.spec_model.specs.Words.{Author, Certificate, Message}
use Rattle.spec_laws.proofs.Closed.{floor_of}
use Rattle.spec_laws.proofs.Growing.{leader_in}
use Rattle.spec_laws.proofs.Lists.{given_or_none}
use Rattle.spec_laws.proofs.OrderLonger.{top_leader, leader_place}
use Rattle.spec_laws.proofs.Votes.{slot_is, of_its_slot}
use Rattle.spec_machine.specs.Machine.{certificate_of, highest_with, grown}
use Rattle.spec_machine.specs.Sound.{AreCertificates, IsReceived}
use Rattle.spec_machine.proofs.AfterStep.{IsAfterStep, after_step, added_well, slot_cases, slot_kept, slot_found, slot_stays}
use Rattle.spec_machine.proofs.Collected.{IsNext}
use Rattle.spec_machine.proofs.Step.{IsStep, or_right}

-- ---- each certificate

above_genesis : (floor round : ℕ) → is_low floor round ≡ false → 0 < round
above_genesis floor round high = grind (arith, high, common_steps)

passed_stays : (node : Node) (state : State) (sender : Author) (m : Message) → IsStep node state sender m → IsAfterStep node state m
    → (round author : ℕ) (c : Certificate) → (grown node state m).slots round author ≡ Some c
    → (c ≡ genesis author) ⊎ IsReceived node (after_step node state m) c
passed_stays node state sender m step back round author c held =
    elim (slot_cases node state m round author c held) [
      | inl old ↦ elim (step.sound.certificates.passed round author c old) [
        | inl first ↦ inl first
        | inr was ↦ inr (record { above = was.above; passed = was.passed; held = back.held c.header was.held })
      ]
      | inr new ↦
          let well = added_well node state sender m step c new.added in
          inr (record { above = above_genesis (floor_in node state) c.header.round well.high; passed = well.taken; held = back.held c.header well.held })
    ]

pub member_grown : (node : Node) (state : State) (sender : Author) (m : Message) → IsStep node state sender m → (round author : ℕ) (c : Certificate)
    → (grown node state m).slots round author ≡ Some c → author < size_of node
member_grown node state sender m step round author c held =
    elim (slot_cases node state m round author c held) [
      | inl old ↦ step.sound.certificates.of_members round author c old
      | inr new ↦ subst (λ a. a < size_of node) (slot_is round author c.header new.place).1 (added_well node state sender m step c new.added).member
    ]

-- ---- the greatest round

no_less : (highest : ℕ) (o : Option Certificate) → highest ≤ highest_with highest o
no_less highest (Some c) = grind arith
no_less highest None = omega arith

added_within : (highest : ℕ) (o : Option Certificate) (c : Certificate) → o ≡ Some c → c.header.round ≤ highest_with highest o
added_within highest (Some d) c is = let same = ap (λ (e : Certificate). e.header.round) (same_Some d c is) in grind (arith, same)
added_within highest None c is = absurd cc

highest_grown : (node : Node) (state : State) (sender : Author) (m : Message) → IsStep node state sender m → (round author : ℕ) (c : Certificate)
    → (grown node state m).slots round author ≡ Some c → round ≤ (grown node state m).highest
highest_grown node state sender m step round author c held =
    elim (slot_cases node state m round author c held) [
      | inl old ↦
          let was = step.sound.certificates.highest round author c old in
          let more = no_less state.highest (certificate_of node state m) in
          omega (arith, was, more)
      | inr new ↦
          let at = (slot_is round author c.header new.place).0 in
          let within = added_within state.highest (certificate_of node state m) c new.added in
          omega (arith, at, within)
    ]

-- the greater of two numbers is one of them
either_most : (one other : ℕ) → (max one other ≡ one) ⊎ (max one other ≡ other)
either_most one other = elim (cases_lt one other) [ inl less ↦ inr (grind (arith, less)) | inr more ↦ inl (grind (arith, more)) ]

reached_grown : (node : Node) (state : State) (sender : Author) (m : Message) → IsStep node state sender m → (author : ℕ) × (c : Certificate)
    × ((grown node state m).slots (grown node state m).highest author ≡ Some c)
reached_grown node state sender m step =
    let later = grown node state m in
    let was = step.sound.certificates.reached in
    let kept = slot_kept node state m state.highest was.0 was.1 was.2 in
    elim (given_or_none (certificate_of node state m)) [
      | inr none ↦ (was.0, was.1, ap (λ o. later.slots (highest_with state.highest o) was.0) none ∙ kept)
      | inl added ↦
          let c = added.0 in
          let well = added_well node state sender m step c added.1 in
          let round = c.header.round in
          let author = c.header.author.0 in
          let here : slots_of (c ∷ []) round author ≡ Some c = ap (λ b. if b then Some c else None) (of_its_slot c.header) in
          let new : later.slots round author ≡ Some c = or_right (state.slots round author)
          (slots_of (option_to_list (certificate_of node state m)) round author) well.free ∙ ap (λ o. slots_of (option_to_list o) round author)
          added.1 ∙ here in
          let most : later.highest ≡ max state.highest round = ap (highest_with state.highest) added.1 in
          elim (either_most state.highest round) [
            | inl old ↦ (was.0, was.1, ap (λ r. later.slots r was.0) (most ∙ old) ∙ kept)
            | inr higher ↦ (author, c, ap (λ r. later.slots r author) (most ∙ higher) ∙ new)
          ]
    ]

-- the floor lies no higher
floor_within : (node : Node) (state : State) (sender : Author) (m : Message) → IsStep node state sender m → IsNext node state m → floor_in node (grown node state m) ≤ (grown node state m).highest
floor_within node state sender m step next =
    let later = grown node state m in
    let ledger = ledger_in node later in
    elim (given_or_none (top ledger)) [
      | inr none ↦ let least : floor_in node later ≡ 0 = ap (floor_of node) none in omega (arith, least)
      | inl found ↦
          let lead = top_leader ledger found.0 found.1 in
          let wave = found.0 - 1 in
          let last = lead.0 in
          let is : floor_in node later ≡ (2 * suc wave - 1) - node.charter.depth = ap (floor_of node) lead.1 in
          let place = (leader_place ledger wave last next.members next.extends.placed_after lead.2).0 in
          let held = leader_in ledger (suc wave) last next.extends.placed_after lead.2 in
          let within = highest_grown node state sender m step last.header.round last.header.author.0 last held in
          omega (arith, is, place, within)
    ]

-- ---- all of it

genesis_stays : (node : Node) (state : State) (sender : Author) (m : Message) → IsStep node state sender m → IsAfterStep node state m
    → floor_in node (after_step node state m) ≡ 0 → (author : ℕ) → author < size_of node
    → (after_step node state m).slots 0 author ≡ Some (genesis author)
genesis_stays node state sender m step back least author member =
    let rises = back.rises in
    let was = step.sound.certificates.genesis (omega (arith, rises, least)) author member in
    slot_stays (floor_in node (grown node state m)) (floor_in node (after_step node state m)) 0 ((grown node state m).slots 0 author) (genesis author) back.floors (omega (arith, least))
    (slot_kept node state m 0 author (genesis author) was)

reached_stays : (node : Node) (state : State) (sender : Author) (m : Message) → IsStep node state sender m → IsNext node state m → IsAfterStep node state m
    → (author : ℕ) × (c : Certificate) × ((after_step node state m).slots (after_step node state m).highest author ≡ Some c)
reached_stays node state sender m step next back =
    let later = grown node state m in
    let floors = back.floors in
    let within = floor_within node state sender m step next in
    let it = reached_grown node state sender m step in
    (it.0, it.1, slot_stays (floor_in node later) (floor_in node (after_step node state m)) later.highest (later.slots later.highest it.0) it.1 floors (omega (arith, floors, within)) it.2)

pub certificates_stay : (node : Node) (state : State) (sender : Author) (m : Message) → IsStep node state sender m → IsNext node state m
    → IsAfterStep node state m → AreCertificates node (after_step node state m)
certificates_stay node state sender m step next back =
    let later = grown node state m in
    let was : (round author : ℕ) (c : Certificate) → (after_step node state m).slots round author ≡ Some c → (floor_in node (after_step node state m) ≤ round) × (later.slots round author ≡ Some c) =
    λ round author c held. slot_found (floor_in node later) (floor_in node (after_step node state m)) round (later.slots round author) c back.floors held in
    record {
      placed = λ round author c held. next.extends.placed_after round author c (was round author c held).1;
      above = λ round author c held. (was round author c held).0;
      passed = λ round author c held. passed_stays node state sender m step back round author c (was round author c held).1;
      of_members = λ round author c held. member_grown node state sender m step round author c (was round author c held).1;
      genesis = genesis_stays node state sender m step back;
      highest = λ round author c held. highest_grown node state sender m step round author c (was round author c held).1;
      reached = reached_stays node state sender m step next back;
    }
