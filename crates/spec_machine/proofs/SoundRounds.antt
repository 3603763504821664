-- The round below a sound state's own is full, and at or above the floor.
use Rattle.std.proofs.Common.{◌≡◌, ℕ, suc, ◌+◌, ◌-◌, ◌*◌, ◌<◌, ◌≤◌, true, false, Some, inl, inr, ap, sym, ◌∙◌, arith}
use Rattle.std.specs.Prelude.{is_some, length, nat_lt, nat_le, ◌==◌}
use Rattle.std.proofs.lemmas.Bool.{and_parts, eqb-true, leb-true, le-leb}
use Rattle.committee.proofs.Weights.{weight-same, weight-within, weight-all, some_of_weight}
use Rattle.spec_model.specs.Holdings.{is_full, is_held, is_low}
use Rattle.spec_model.specs.Nodes.{Node, IsNode, size_of}
use Rattle.spec_model.specs.Ordering.{top, supports}
use Rattle.spec_model.specs.Slots.{Slots}
use Rattle.spec_model.specs.States.{State, ledger_in, floor_in}
use Rattle.spec_model.specs.Words.{Certificate, ParentReference}
use Rattle.spec_laws.proofs.Closed.{all_to, floor_of}
use Rattle.spec_laws.proofs.Lists.{given_or_none}
use Rattle.spec_laws.proofs.Meeting.{any_to, is_named_by}
use Rattle.spec_laws.proofs.OrderGrows.{members_some, names_quorum, sound_certificate}
use Rattle.spec_laws.proofs.OrderLonger.{directly_committed_leader, is_top_of, leader_place, top_leader}
use Rattle.spec_laws.proofs.Proposed.{above_floor}
use Rattle.spec_laws.proofs.Votes.{slot_is}
use Rattle.spec_laws.proofs.Weighing.{quorum_within, total_some}
use Rattle.spec_machine.specs.Machine.{full_to, round_in}
use Rattle.spec_machine.specs.Sound.{IsReceived, AreCertificates}
use Rattle.spec_machine.proofs.Proposing.{full_is, full_most}

-- a full round at or above the floor, up to the greatest round
record IsFullAbove (node : Node) (state : State) (round : ℕ) : Type 0 where
  full : is_full node state.slots round ≡ true
  above : floor_in node state ≤ round
  within : round ≤ state.highest

-- a full round has a certificate, so it is no higher than the greatest
full_within : (node : Node) (state : State) → AreCertificates node state → (round : ℕ) → is_full node state.slots round ≡ true → round ≤ state.highest
full_within node state certificates round full =
    let some = some_of_weight node.charter (λ author. is_some (state.slots round author)) (omega (arith, leb-true _ _ full)) in
    elim (given_or_none (state.slots round some.member)) [
      | inl found ↦ certificates.highest round some.member found.0 found.1
      | inr none ↦ let nothing = rw none at some.holds in absurd cc
    ]

-- at a floor of 0 the genesis is full
genesis_full : (node : Node) (state : State) → IsNode node → AreCertificates node state → floor_in node state ≡ 0 → IsFullAbove node state 0
genesis_full node state sound certificates least =
    let first : (author : ℕ) → author < size_of node → is_some (state.slots 0 author) ≡ true = λ author member. ap is_some (certificates.genesis least author member) in
    let all = weight-same node.charter (λ author. is_some (state.slots 0 author)) (λ _. true) first in
    let whole = weight-all node.charter sound.charter.staked in
    let within = quorum_within node.charter sound.charter in
    record { full = le-leb _ _ (omega (arith, all, whole, within)); above = omega (arith, least); within = omega arith }

-- a parent that lies above the floor is there
parent_there : (slots : Slots) (floor round : ℕ) (p : ParentReference) → floor < round - 1 → is_held slots floor round p ≡ true → is_some (slots (round - 1) p.author.0) ≡ true
parent_there slots floor round p high held =
    elim (given_or_none (slots (round - 1) p.author.0)) [
      | inl found ↦ ap is_some found.1
      | inr none ↦
          let low = rw none at held in
          let within = leb-true _ _ (and_parts (nat_lt 0 floor) (nat_le (round - 1) floor) low).1 in
          absurd (omega (arith, within, high))
    ]

-- below a certificate whose parents lie above the floor the round is full
below_received : (node : Node) (state : State) → IsNode node → (c : Certificate) → IsReceived node state c → floor_in node state < c.header.round - 1
    → is_full node state.slots (c.header.round - 1) ≡ true
below_received node state sound c received high =
    let quorum = names_quorum node sound c (sound_certificate node node.own c received.passed) in
    let there = weight-within node.charter (is_named_by c) (λ author. is_some (state.slots (c.header.round - 1) author))
    (λ author member named.
    let parent = any_to (λ p. p.author.0 == author) c.header.parents named in
    let by = eqb-true parent.0.author.0 author parent.2 in
    let held = all_to (is_held state.slots (floor_in node state) c.header.round) c.header.parents parent.0 received.held parent.1 in
    ap (λ a. is_some (state.slots (c.header.round - 1) a)) (sym by) ∙ parent_there state.slots (floor_in node state) c.header.round parent.0 high held) in
    le-leb _ _ (omega (arith, quorum, there))

-- a certificate above the first round isn't the genesis
received_above : (node : Node) (state : State) → AreCertificates node state → (round author : ℕ) (c : Certificate) → 0 < round → state.slots round author ≡ Some c → IsReceived node state c
received_above node state certificates round author c above held =
    elim (certificates.passed round author c held) [
      | inr received ↦ received
      | inl first ↦
          let place = slot_is round author c.header (certificates.placed round author c held) in
          let zero : c.header.round ≡ 0 = ap (λ (d : Certificate). d.header.round) first in
          absurd (omega (arith, above, zero, place.0))
    ]

-- the last committed leader is supported from the round above its own, whose parents make its own full
leader_full : (node : Node) (state : State) → IsNode node → AreCertificates node state → (wave : ℕ) → top (ledger_in node state) ≡ Some wave → (round : ℕ) × IsFullAbove node state round
leader_full node state sound certificates wave is_top =
    let ledger = ledger_in node state in
    let lead = top_leader ledger wave is_top in
    let facts = is_top_of ledger (length state.coins) (suc (wave - 1)) lead.1 in
    let last = directly_committed_leader ledger (suc (wave - 1)) facts.is in
    let place = leader_place ledger (wave - 1) last.0 (members_some node sound) certificates.placed last.1 in
    let enough = leb-true _ _ last.2 in
    let total = total_some node.charter sound.charter in
    let some = some_of_weight node.charter (supports ledger last.0) (omega (arith, enough, total)) in
    let is : floor_in node state ≡ (2 * suc (wave - 1) - 1) - node.charter.depth = ap (floor_of node) lead.1 in
    let deep = sound.charter.depth.0 in
    elim (given_or_none (state.slots (last.0.header.round + 1) some.member)) [
      | inr none ↦ let nothing = rw none at some.holds in absurd cc
      | inl found ↦
          let c = found.0 in
          let at = slot_is (last.0.header.round + 1) some.member c.header (certificates.placed (last.0.header.round + 1) some.member c found.1) in
          let received = received_above node state certificates (last.0.header.round + 1) some.member c (omega arith) found.1 in
          let high : floor_in node state < c.header.round - 1 = omega (arith, is, deep, at.0, place.0) in
          let full = below_received node state sound c received high in
          (c.header.round - 1, record { full = full; above = omega (arith, high); within = full_within node state certificates (c.header.round - 1) full })
    ]

some_full : (node : Node) (state : State) → IsNode node → AreCertificates node state → (round : ℕ) × IsFullAbove node state round
some_full node state sound certificates =
    elim (given_or_none (top (ledger_in node state))) [
      | inl found ↦ leader_full node state sound certificates found.0 found.1
      | inr none ↦ (0, genesis_full node state sound certificates (ap (floor_of node) none))
    ]

-- the round below a state's own is full; and the state's own isn't low
pub record IsOpen (node : Node) (state : State) : Type 0 where
  pub full : is_full node state.slots (round_in node state - 1) ≡ true
  pub high : is_low (floor_in node state) (round_in node state) ≡ false

pub open_round : (node : Node) (state : State) → IsNode node → AreCertificates node state → IsOpen node state
open_round node state sound certificates =
    let found = some_full node state sound certificates in
    let base = found.0 in
    let greatest = full_to node state.slots state.highest in
    let least = full_most node state.slots state.highest base found.1.full found.1.within in
    let above = found.1.above in
    let below : round_in node state - 1 ≡ greatest = omega arith in
    let full : is_full node state.slots greatest ≡ true =
    elim (full_is node state.slots state.highest) [
      | inr is ↦ is
      | inl none ↦ let same : greatest ≡ base = omega (arith, none, least) in ap (is_full node state.slots) same ∙ found.1.full
    ] in
    record {
      full = ap (is_full node state.slots) below ∙ full;
      high = above_floor (floor_in node state) (round_in node state) (omega arith) (inr (omega (arith, above, least)));
    }
