-- At a sound state what is held above the last committed leader reaches it.
use Rattle.std.proofs.Common.{◌≡◌, ℕ, suc, ◌+◌, ◌-◌, ◌*◌, ◌<◌, true, length, Some, List, inl, inr, ap, sym, ◌∙◌, subst, arith}
use Rattle.std.specs.Prelude.{nat_lt, nat_le, option_and_then, ◌==◌}
use Rattle.std.specs.Option.{option_map_or}
use Rattle.std.specs.Str.{bytes_eq}
use Rattle.std.proofs.lemmas.Bool.{cases_Bool, and_parts, and_from, leb-true}
use Rattle.std.proofs.lemmas.Option.{same_Some}
use Rattle.std.proofs.lemmas.Slice.Eq.{bytes_eq-Decides}
use Rattle.spec_model.specs.Holdings.{is_held}
use Rattle.spec_model.specs.Nodes.{Node, IsNode, size_of}
use Rattle.spec_model.specs.Ordering.{leader, has_support, reaches_in, top, last_wave}
use Rattle.spec_model.specs.Slots.{Slots, same_digest, certificate_digest, is_named}
use Rattle.spec_model.specs.States.{State, ledger_in, floor_in}
use Rattle.spec_model.specs.Words.{Certificate, ParentReference}
use Rattle.spec_laws.proofs.Closed.{all_to, floor_of}
use Rattle.spec_laws.proofs.Growing.{AreInPlace, leader_in}
use Rattle.spec_laws.proofs.Lists.{given_or_none}
use Rattle.spec_laws.proofs.Meeting.{AreRooted, reaches_leader, same_number}
use Rattle.spec_laws.proofs.OrderGrows.{members_some, names_quorum, sound_certificate}
use Rattle.spec_laws.proofs.OrderLonger.{is_top_of, top_leader, leader_place, directly_committed_leader}
use Rattle.spec_laws.proofs.Votes.{slot_is}
use Rattle.spec_machine.specs.Machine.{last_leader}
use Rattle.spec_machine.specs.Sound.{IsSound}
use Rattle.sequencer.proofs.Chaining.{ReachFrom}

same_bytes : (one other : List ℕ) → bytes_eq one other ≡ true → bytes_eq other one ≡ true
same_bytes one other same = (bytes_eq-Decides other one).1 (sym ((bytes_eq-Decides one other).0 same))

-- a parent that is held by its certificate, since it lies too high for the floor
parent_held : (slots : Slots) (floor round : ℕ) (p : ParentReference) → AreInPlace slots → is_held slots floor round p ≡ true → floor < round - 1
    → (parent : Certificate) × (slots (round - 1) p.author.0 ≡ Some parent) × (is_named parent p ≡ true)
parent_held slots floor round p placed held high =
    elim (given_or_none (slots (round - 1) p.author.0)) [
      | inr none ↦
          let low = rw none at held in
          let within = leb-true _ _ (and_parts (nat_lt 0 floor) (nat_le (round - 1) floor) low).1 in
          absurd (omega (arith, within, high))
      | inl found ↦
          let parent = found.0 in
          let place = slot_is (round - 1) p.author.0 parent.header (placed (round - 1) p.author.0 parent found.1) in
          let held' = rw found.1 at held in
          elim (cases_Bool (same_digest (certificate_digest parent.header) p.certificate)) [
            | inl same ↦ (
              parent,
              found.1,
              and_from _ _ (ap (λ a. p.author.0 == a) place.1 ∙ same_number p.author.0) (same_bytes (certificate_digest parent.header).0 p.certificate.0 same),
            )
            | inr other ↦
                let low = rw other at held' in
                let within = leb-true _ _ (and_parts (nat_lt 0 floor) (nat_le (round - 1) floor) low).1 in
                absurd (omega (arith, within, high))
          ]
    ]

rooted : (node : Node) (state : State) → IsNode node → IsSound node state → (wave : ℕ) (last : Certificate) → top (ledger_in node state) ≡ Some (suc wave) → last.header.round ≡ 2 * wave + 1
    → AreRooted node.charter state.slots (last.header.round + 1)
rooted node state node_is sound wave last is_top level round author c held above =
    let placed = sound.certificates.placed in
    let place = slot_is round author c.header (placed round author c held) in
    let floor : floor_in node state ≡ (2 * suc wave - 1) - node.charter.depth = ap (floor_of node) is_top in
    elim (sound.certificates.passed round author c held) [
      | inl first ↦ let least : c.header.round ≡ 0 = ap (λ (d : Certificate). d.header.round) first in absurd (omega (arith, least, above, place.0))
      | inr received ↦
          let is = sound_certificate node node.own c received.passed in
          record {
            member = subst (λ a. a < size_of node) place.1 is.member;
            quorum = names_quorum node node_is c is;
            held = λ p among. parent_held state.slots (floor_in node state) round p placed
                (ap (λ r. is_held state.slots (floor_in node state) r p) (sym place.0) ∙ all_to (is_held state.slots (floor_in node state) c.header.round) c.header.parents p received.held among)
                (omega (arith, floor, above, level));
          }
    ]

pub reaches_last : (node : Node) (state : State) → IsNode node → IsSound node state → ReachFrom (ledger_in node state) (last_leader (ledger_in node state)) (last_wave (ledger_in node state))
reaches_last node state node_is sound c held high =
    let ledger = ledger_in node state in
    elim (given_or_none (top ledger)) [
      | inr none ↦ ap (λ o. option_map_or (λ before. reaches_in ledger c before) (option_and_then (leader ledger) o) true) none
      | inl found ↦
          let wave = found.0 - 1 in
          let lead = top_leader ledger found.0 found.1 in
          let last = lead.0 in
          let facts = is_top_of ledger (length ledger.coins) (suc wave) lead.1 in
          let is_wave : last_wave ledger ≡ suc wave = ap (λ o. option_map_or (λ w. w) o 0) lead.1 in
          let is_last : last_leader ledger ≡ Some last = ap (λ o. option_and_then (leader ledger) o) lead.1 ∙ lead.2 in
          let place = leader_place ledger wave last (members_some node node_is) sound.certificates.placed lead.2 in
          let supported = directly_committed_leader ledger (suc wave) facts.is in
          let same = same_Some supported.0 last (sym supported.1 ∙ lead.2) in
          ap (λ o. option_map_or (λ before. reaches_in ledger c before) o true) is_last
          ∙ reaches_leader node.charter node_is.charter state.slots sound.certificates.placed last (leader_in ledger (suc wave) last sound.certificates.placed lead.2) place.1
          (ap (has_support ledger) (sym same) ∙ supported.2)
          (rooted node state node_is sound wave last lead.1 place.0) c held (omega (arith, high, is_wave, place.0))
    ]
