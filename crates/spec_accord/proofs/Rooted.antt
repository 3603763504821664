-- Above a round that the floor from before an event tells, what the node then holds has its parents held, a quorum.
use Rattle.std.proofs.Common.{◌≡◌, ℕ, zero, suc, ◌+◌, ◌-◌, ◌*◌, ◌<◌, ◌≤◌, true, false, [], ◌∷◌, ◌++◌, Some, inl, inr, refl, ap, sym, ◌∙◌, subst, arith}
use Rattle.std.specs.Prelude.{nat_le, nat_lt, ◌==◌, ◌&&◌}
use Rattle.std.specs.Option.{option_map_or}
use Rattle.std.proofs.lemmas.Bool.{cases_Bool, and_from}
use Rattle.std.proofs.lemmas.Option.{same_Some}
use Rattle.spec_model.specs.Histories.{History}
use Rattle.spec_model.specs.Holdings.{ledger_at, certificates, slots, floor, is_held, all_held}
use Rattle.spec_model.specs.Nodes.{Node, size_of}
use Rattle.spec_model.specs.Ordering.{top, last_wave}
use Rattle.spec_model.specs.Slots.{Slots, same_digest, certificate_digest, is_of_slot, is_named}
use Rattle.spec_model.specs.Words.{Certificate, Event, ParentReference}
use Rattle.spec_laws.proofs.Closed.{in_place, closed, newly, added_by, kept_slot, all_to, floor_of}
use Rattle.spec_laws.proofs.Growing.{AreInPlace}
use Rattle.spec_laws.proofs.Legal.{Adds}
use Rattle.spec_laws.proofs.Lists.{given_or_none, found_passes}
use Rattle.spec_laws.proofs.Meeting.{AreRooted, same_number}
use Rattle.spec_laws.proofs.OrderGrows.{sound, same_digests, names_quorum}
use Rattle.spec_laws.proofs.OrderLonger.{not_old}
use Rattle.spec_laws.proofs.Votes.{slot_is}

-- above which round all parents are held: the first above a floor, whose own parents may lie below it, or the genesis
abbrev pub held_from : ℕ → ℕ
held_from zero = 0
held_from (suc floor) = floor + 2

-- above it no parent lies too low to be asked for
asked_for : (floor round : ℕ) → held_from floor < round → (nat_lt 0 floor && nat_le (round - 1) floor) ≡ false
asked_for zero round above = refl
asked_for (suc floor) round above =
    let high : nat_le (round - 1) (suc floor) ≡ false = not_old (suc floor) (round - 1) (omega (arith, above)) in
    elim (cases_Bool (nat_lt 0 (suc floor))) [ inl some ↦ rw (some, high) refl | inr none ↦ rw none refl ]

-- so it is held by its certificate
parent_there : (slots : Slots) → AreInPlace slots → (floor round : ℕ) (p : ParentReference) → held_from floor < round
    → is_held slots floor round p ≡ true
    → (parent : Certificate) × (slots (round - 1) p.author.0 ≡ Some parent) × (is_named parent p ≡ true)
parent_there slots placed floor round p above held =
    let high = asked_for floor round above in
    elim (given_or_none (slots (round - 1) p.author.0)) [
      | inr none ↦ let bad = rw (none, high) at held in absurd cc
      | inl found ↦
          let place = slot_is (round - 1) p.author.0 found.0.header (placed (round - 1) p.author.0 found.0 found.1) in
          let held' = rw found.1 at held in
          elim (cases_Bool (same_digest (certificate_digest found.0.header) p.certificate)) [
            | inr other ↦ let bad = rw (other, high) at held' in absurd cc
            | inl same ↦ (
              found.0,
              found.1,
              and_from _ _ (ap (λ a. p.author.0 == a) place.1 ∙ same_number p.author.0)
                  (same_digests (certificate_digest found.0.header).0 p.certificate.0 same),
            )
          ]
    ]

-- what lies above that round after one more event has its parents held
pub rooted_from : (node : Node) (history : History) (event : Event) → Adds node history event
    → AreRooted node.charter (slots node (history ++ event ∷ [])) (held_from (floor node history))
rooted_from node history event adds round author c held above =
    let n = size_of node in
    let later = history ++ event ∷ [] in
    let was = closed node history adds.legal in
    let place = slot_is round author c.header (in_place node later round author c held) in
    let inside = (found_passes (λ d. is_of_slot round author d.header) (certificates node later) c held).1 in
    let is = sound node later adds.longer c inside (omega (arith, place.0, above)) in
    let all : all_held (slots node history) (floor node history) c.header ≡ true =
    elim (given_or_none (slots node history round author)) [
      | inl old ↦
          let same : old.0 ≡ c =
          same_Some old.0 c (sym (kept_slot node history event adds round author old.0 old.1) ∙ held) in
          ap (λ (d : Certificate). all_held (slots node history) (floor node history) d.header) (sym same)
          ∙ was.of_slots round author old.0 old.1
      | inr none ↦
          let new = newly node history event adds round author c none held in
          (added_by node history event.sender event.message was adds c new).held
    ] in
    record {
      member = subst (λ a. a < n) place.1 is.member;
      quorum = names_quorum node adds.legal.sound c is;
      held = λ p among.
          let before = slots node history in
          let low = floor node history in
          let tested = is_held before low in
          let is' : tested round p ≡ true =
          ap (λ r. tested r p) (sym place.0) ∙ all_to (tested c.header.round) c.header.parents p all among in
          let there = parent_there before (in_place node history) low round p above is' in
          (there.0, kept_slot node history event adds (round - 1) p.author.0 there.0 there.1, there.2);
    }

-- ---- the floor

-- the floor by the last wave, which is 0 where there is none
pub floor_is : (node : Node) (history : History)
    → floor node history ≡ (2 * last_wave (ledger_at node history) - 1) - node.charter.depth
floor_is node history =
    elim (given_or_none (top (ledger_at node history))) [
      | inr none ↦
          let is : floor node history ≡ 0 = ap (floor_of node) none in
          let at : last_wave (ledger_at node history) ≡ 0 = ap (λ o. option_map_or (λ w. w) o 0) none in
          omega (arith, is, at)
      | inl found ↦
          let is : floor node history ≡ (2 * found.0 - 1) - node.charter.depth = ap (floor_of node) found.1 in
          let at : last_wave (ledger_at node history) ≡ found.0 = ap (λ o. option_map_or (λ w. w) o 0) found.1 in
          omega (arith, is, at)
    ]

-- what lies below the round is deeper than the depth below all leaders of later waves
pub held_below : (floor wave depth round : ℕ) → floor ≡ (2 * wave - 1) - depth → round < held_from floor
    → round + depth < 2 * wave
held_below zero wave depth round is below = absurd (omega (arith, below))
held_below (suc floor) wave depth round is below = omega (arith, is, below)

-- and the round is no higher than the second one of the last wave
pub held_under : (floor wave depth : ℕ) → floor ≡ (2 * wave - 1) - depth → 2 ≤ depth → held_from floor ≤ 2 * wave
held_under zero wave depth is deep = omega arith
held_under (suc floor) wave depth is deep = omega (arith, is, deep)
