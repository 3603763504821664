-- What lies below the floor isn't needed: what is kept of a state has its floor, and grows as the state does.
use Rattle.std.proofs.Common.{◌≡◌, ℕ, suc, ◌+◌, ◌-◌, ◌*◌, ◌<◌, ◌≤◌, arith, true, false, List, ◌++◌, map, length, Option, Some, None, inl, inr, refl, ap, sym, ◌∙◌}
use Rattle.std.proofs.Math.Path.{fun_ext}
use Rattle.std.specs.Prelude.{nat_lt, option_map, option_and_then, if◌then◌else◌}
use Rattle.std.specs.Option.{option_map_or, option_or, option_to_list}
use Rattle.std.proofs.lemmas.Bool.{cases_Bool}
use Rattle.std.proofs.lemmas.Grind.{common_steps}
use Rattle.std.proofs.lemmas.List.{length-append}
use Rattle.std.proofs.lemmas.Option.{none-some}
use Rattle.wire.specs.declared.message.Message.TheVariants as message
use Rattle.spec_model.specs.Giving.{unless_low, collected}
use Rattle.spec_model.specs.Histories.{as_coin}
use Rattle.spec_model.specs.Holdings.{certificate_by, ledger_of, is_low}
use Rattle.spec_model.specs.Nodes.{Node, size_of}
use Rattle.spec_model.specs.Ordering.{leader, is_directly_committed, top, newer, last_wave, segments}
use Rattle.spec_model.specs.Slots.{Slots, header_digest, certificate_digest, is_of_slot, slots_of}
use Rattle.spec_model.specs.States.{State, ledger_in, floor_in}
use Rattle.spec_model.specs.Words.{Certificate, Digest, Message}
use Rattle.spec_laws.proofs.Closed.{floor_of}
use Rattle.spec_laws.proofs.FromRounds.{AgreeFrom, leader_from, top_from, since_from}
use Rattle.spec_laws.proofs.Growing.{AreInPlace, Extends, directly_committed_kept}
use Rattle.spec_laws.proofs.Lists.{given_or_none, found_passes}
use Rattle.spec_laws.proofs.OrderLonger.{is_top_of, top_leader, top_grows}
use Rattle.spec_machine.specs.Machine.{header_at, vote_at, counted_with, certificate_of, slots_with, highest_with, last_leader, grown}
use Rattle.spec_machine.proofs.Grown.{same_state}

-- ---- what is held from the floor on

pub high_above : (floor round : ℕ) → is_low floor round ≡ false → floor ≤ round
high_above floor round high = grind (arith, high, common_steps)

pub not_below : (low round : ℕ) → low ≤ round → nat_lt round low ≡ false
not_below low round above = grind (arith, above)

pub kept_was : (low : ℕ) (slots : Slots) (round author : ℕ) (c : Certificate) → (if nat_lt round low then None else slots round author) ≡ Some c → slots round author ≡ Some c
kept_was low slots round author c held =
    elim (cases_Bool (nat_lt round low)) [
      | inl below ↦ let nothing = rw below at held in absurd (none-some c nothing)
      | inr above ↦ let is = rw above at held in is
    ]

pub agree : (node : Node) (state : State) → AreInPlace state.slots → AgreeFrom (floor_in node state) state.slots (collected node state).slots
agree node state placed = record {
  placed = placed;
  placed_other = λ round author c held. placed round author c (kept_was (floor_in node state) state.slots round author c held);
  same = λ round author above. sym (ap (λ b. if b then None else state.slots round author) (not_below (floor_in node state) round above));
}

-- at a floor of 0 slots that agree from it are the same
all_same : (low : ℕ) (one other : Slots) → AgreeFrom low one other → low ≡ 0 → one ≡ other
all_same low one other agree least = fun_ext (λ round. fun_ext (λ author. agree.same round author (omega (arith, least))))

-- the greatest wave that is directly committed, by slots that agree from the floor on
record IsAt (node : Node) (one : State) (wave : ℕ) (last : Certificate) : Type 0 where
  found : top (ledger_in node one) ≡ Some (suc wave)
  leads : leader (ledger_in node one) (suc wave) ≡ Some last
  floor : floor_in node one ≡ (2 * suc wave - 1) - node.charter.depth
  above : floor_in node one ≤ 2 * wave + 1
  committed : is_directly_committed (ledger_in node one) (suc wave) ≡ true
  within : suc wave ≤ length one.coins
  last_wave : last_wave (ledger_in node one) ≡ suc wave

at_top : (node : Node) (one : State) (greatest : ℕ) → top (ledger_in node one) ≡ Some greatest → (wave : ℕ) × (last : Certificate) × IsAt node one wave last
at_top node one greatest found =
    let lead = top_leader (ledger_in node one) greatest found in
    let wave = greatest - 1 in
    let facts = is_top_of (ledger_in node one) (length one.coins) (suc wave) lead.1 in
    let is : floor_in node one ≡ (2 * suc wave - 1) - node.charter.depth = ap (floor_of node) lead.1 in (
      wave,
      lead.0,
      record {
        found = lead.1;
        leads = lead.2;
        floor = is;
        above = omega (arith, is);
        committed = facts.is;
        within = facts.within;
        last_wave = ap (λ o. option_map_or (λ w. w) o 0) lead.1;
      },
    )

pub kept_top : (node : Node) (state : State) → 0 < size_of node → AreInPlace state.slots → top (ledger_in node state) ≡ top (ledger_in node (collected node state))
kept_top node state some placed =
    let same = agree node state placed in
    elim (given_or_none (top (ledger_in node state))) [
      | inr none ↦ ap (λ s. top (ledger_of node s state.coins)) (all_same (floor_in node state) state.slots (collected node state).slots same (ap (floor_of node) none))
      | inl found ↦
          let at = at_top node state found.0 found.1 in
          top_from (floor_in node state) (ledger_in node state) (collected node state).slots some same at.0 at.2.above at.2.committed (length state.coins) at.2.within
    ]

pub kept_floor : (node : Node) (state : State) → 0 < size_of node → AreInPlace state.slots → floor_in node state ≡ floor_in node (collected node state)
kept_floor node state some placed = ap (floor_of node) (kept_top node state some placed)

-- what is kept of a round that isn't low is what there was
pub unless : {X : Type 0} (floor round : ℕ) (found : Option X) → is_low floor round ≡ false → unless_low floor round found ≡ found
unless floor round found high = ap (λ b. if b then None else found) high

-- ---- one more event

-- a new vote is of a round that isn't low
abbrev pub IsHigh : ℕ → Message → Type 0
IsHigh floor (message.Vote vote) = is_low floor vote.round ≡ false
IsHigh floor _ = Unit {0}

-- it adds the same certificate
pub same_certificate : (node : Node) (state : State) (m : Message) → IsHigh (floor_in node state) m → certificate_of node (collected node state) m ≡ certificate_of node state m
same_certificate node state (message.Vote vote) high =
    let floor = floor_in node state in
    let kept = collected node state in
    ap (option_and_then (certificate_by node (counted_with node kept (message.Vote vote) vote.round))) (unless floor vote.round (state.own_headers vote.round) high)
    ∙ ap (λ counted. option_and_then (certificate_by node counted) (state.own_headers vote.round))
    (fun_ext (λ voter. ap (λ o. option_or o (vote_at node (message.Vote vote) vote.round voter)) (unless floor vote.round (state.counted vote.round voter) high)))
same_certificate node state (message.Certificate certificate) high = refl
same_certificate node state (message.Batch batch) high = refl
same_certificate node state (message.BatchAck ack) high = refl
same_certificate node state (message.Header header) high = refl
same_certificate node state (message.Coin coin) high = refl

pub placed_with : (slots : Slots) (certificate : Option Certificate) → AreInPlace slots → AreInPlace (slots_with slots certificate)
placed_with slots certificate placed round author c held =
    elim (given_or_none (slots round author)) [
      | inl found ↦ let is = rw found.1 at held in placed round author c (found.1 ∙ is)
      | inr none ↦ let is = rw none at held in (found_passes (λ d. is_of_slot round author d.header) (option_to_list certificate) c is).0
    ]

-- the slots after a new event agree from the floor on
later_agree : (node : Node) (state : State) (m : Message) → AreInPlace state.slots → IsHigh (floor_in node state) m
    → AgreeFrom (floor_in node state) (grown node state m).slots (grown node (collected node state) m).slots
later_agree node state m placed high =
    let same = agree node state placed in
    record {
      placed = placed_with state.slots (certificate_of node state m) placed;
      placed_other = placed_with (collected node state).slots (certificate_of node (collected node state) m) same.placed_other;
      same = λ round author above.
          ap (λ o. option_or o (slots_of (option_to_list (certificate_of node state m)) round author)) (same.same round author above)
          ∙ ap (λ c. option_or ((collected node state).slots round author) (slots_of (option_to_list c) round author)) (sym (same_certificate node state m high));
    }

-- what is taken for granted of a state and a new event: the slots keep what they held, and add no parent of it
pub record IsNext (node : Node) (state : State) (m : Message) : Type 0 where
  pub members : 0 < size_of node
  pub extends : Extends state.slots (grown node state m).slots
  pub high : IsHigh (floor_in node state) m

-- the greatest wave stays directly committed
still_committed : (node : Node) (state : State) (m : Message) → IsNext node state m → (wave : ℕ) (last : Certificate) → IsAt node state wave last
    → (is_directly_committed (ledger_in node (grown node state m)) (suc wave) ≡ true) × (suc wave ≤ length (state.coins ++ option_to_list (as_coin m)))
still_committed node state m next wave last at =
    let more = option_to_list (as_coin m) in
    let size = length-append state.coins more in
    let within = at.within in
    (directly_committed_kept (ledger_in node state) (grown node state m).slots next.extends more (suc wave) at.committed, omega (arith, size, within))

later_top : (node : Node) (state : State) (m : Message) → IsNext node state m → top (ledger_in node (grown node state m)) ≡ top (ledger_in node (grown node (collected node state) m))
later_top node state m next =
    let placed = next.extends.placed_before in
    let same = later_agree node state m placed next.high in
    let coins = state.coins ++ option_to_list (as_coin m) in
    elim (given_or_none (top (ledger_in node state))) [
      | inr none ↦ ap (λ s. top (ledger_of node s coins)) (all_same (floor_in node state) (grown node state m).slots (grown node (collected node state) m).slots same (ap (floor_of node) none))
      | inl found ↦
          let at = at_top node state found.0 found.1 in
          let is = still_committed node state m next at.0 at.1 at.2 in
          top_from (floor_in node state) (ledger_in node (grown node state m)) (grown node (collected node state) m).slots next.members same at.0 at.2.above is.0 (length coins) is.1
    ]

pub later_floor : (node : Node) (state : State) (m : Message) → IsNext node state m → floor_in node (grown node state m) ≡ floor_in node (grown node (collected node state) m)
later_floor node state m next = ap (floor_of node) (later_top node state m next)

-- the floor doesn't go down
pub floor_rises : (node : Node) (state : State) (m : Message) → IsNext node state m → floor_in node state ≤ floor_in node (grown node state m)
floor_rises node state m next =
    let more = option_to_list (as_coin m) in
    elim (given_or_none (top (ledger_in node state))) [
      | inr none ↦ let least : floor_in node state ≡ 0 = ap (floor_of node) none in omega (arith, least)
      | inl found ↦
          let higher_top = top_grows (ledger_in node state) (grown node state m).slots next.extends more found.0 found.1 in
          let is : floor_in node state ≡ (2 * found.0 - 1) - node.charter.depth = ap (floor_of node) found.1 in
          let is' : floor_in node (grown node state m) ≡ (2 * higher_top.0 - 1) - node.charter.depth = ap (floor_of node) higher_top.1 in
          let higher = higher_top.2 in
          omega (arith, is, is', higher)
    ]

-- the last committed leader is the same
pub kept_leader : (node : Node) (state : State) → 0 < size_of node → AreInPlace state.slots → last_leader (ledger_in node state) ≡ last_leader (ledger_in node (collected node state))
kept_leader node state some placed =
    let kept = collected node state in
    let tops = kept_top node state some placed in
    elim (given_or_none (top (ledger_in node state))) [
      | inr none ↦ ap (option_and_then (leader (ledger_in node state))) none ∙ sym (ap (option_and_then (leader (ledger_in node kept))) (sym tops ∙ none))
      | inl found ↦
          let at = at_top node state found.0 found.1 in
          ap (option_and_then (leader (ledger_in node state))) at.2.found
          ∙ leader_from (floor_in node state) (ledger_in node state) kept.slots (agree node state placed) at.0 at.2.above
          ∙ sym (ap (option_and_then (leader (ledger_in node kept))) (sym tops ∙ at.2.found))
    ]

-- so is what is added to the order
pub same_order : (node : Node) (state : State) (m : Message) → IsNext node state m → (grown node state m).order ≡ (grown node (collected node state) m).order
same_order node state m next =
    let kept = collected node state in
    let placed = next.extends.placed_before in
    let same = later_agree node state m placed next.high in
    let coins = state.coins ++ option_to_list (as_coin m) in
    let all = (grown node state m).slots in
    let some = (grown node kept m).slots in
    let waves : last_wave (ledger_in node state) ≡ last_wave (ledger_in node kept) = ap (λ o. option_map_or (λ w. w) o 0) (kept_top node state next.members placed) in
    let leaders = kept_leader node state next.members placed in
    let ordered : Slots → Option Certificate → ℕ → List Digest = λ s previous wave. map (λ (c : Certificate). certificate_digest c.header)
    (segments (ledger_of node s coins) previous (newer (ledger_of node s coins) wave)) in
    ap (λ l. state.order ++ l) (
    elim (given_or_none (top (ledger_in node state))) [
      | inr none ↦
          ap (λ s. ordered s (last_leader (ledger_in node state)) (last_wave (ledger_in node state))) (all_same (floor_in node state) all some same (ap (floor_of node) none))
      | inl found ↦
          let at = at_top node state found.0 found.1 in
          let is = still_committed node state m next at.0 at.1 at.2 in
          let floor = at.2.floor in
          ap (ordered all (last_leader (ledger_in node state))) at.2.last_wave
          ∙ since_from (floor_in node state) (ledger_of node all coins) some next.members same at.0 at.2.above is.0 is.1
          (λ round below. omega (arith, below, floor)) (last_leader (ledger_in node state))
          ∙ sym (ap (ordered some (last_leader (ledger_in node state))) at.2.last_wave)
    ]
    ∙ ap (λ p. ordered some p (last_wave (ledger_in node state))) leaders
    ∙ ap (ordered some (last_leader (ledger_in node kept))) waves)

-- ---- all of it

-- a round that isn't low at a floor isn't at a lower one
still_high : (low high round : ℕ) → low ≤ high → is_low high round ≡ false → is_low low round ≡ false
still_high low high round more not = grind (arith, more, not, common_steps)

-- what is kept of a round is the same where it is so of the rounds that aren't low
unless_same : {X : Type 0} (one other round : ℕ) (found also : Option X) → one ≡ other → (is_low one round ≡ false → found ≡ also) → unless_low one round found ≡ unless_low other round also
unless_same one other round found also floors same =
    elim (cases_Bool (is_low one round)) [
      | inl low ↦ ap (λ b. if b then None else found) low ∙ sym (ap (λ b. if b then None else also) (ap (λ f. is_low f round) (sym floors) ∙ low))
      | inr high ↦ ap (λ o. if is_low one round then None else o) (same high) ∙ ap (λ f. unless_low f round also) floors
    ]

slot_same : (one other : ℕ) (round : ℕ) (found also : Option Certificate) → one ≡ other → (one ≤ round → found ≡ also)
    → (if nat_lt round one then None else found) ≡ (if nat_lt round other then None else also)
slot_same one other round found also floors same =
    elim (cases_Bool (nat_lt round one)) [
      | inl below ↦ ap (λ b. if b then None else found) below ∙ sym (ap (λ b. if b then None else also) (ap (nat_lt round) (sym floors) ∙ below))
      | inr above ↦ ap (λ o. if nat_lt round one then None else o) (same (grind (arith, above))) ∙ ap (λ f. if nat_lt round f then None else also) floors
    ]

pub collected_grows : (node : Node) (state : State) (m : Message) → IsNext node state m → collected node (grown node state m) ≡ collected node (grown node (collected node state) m)
collected_grows node state m next =
    let kept = collected node state in
    let low = floor_in node state in
    let one = floor_in node (grown node state m) in
    let other = floor_in node (grown node kept m) in
    let floors = later_floor node state m next in
    let rises = floor_rises node state m next in
    let before : (round : ℕ) → is_low one round ≡ false → is_low low round ≡ false = λ round. still_high low one round rises in
    let same = later_agree node state m next.extends.placed_before next.high in
    let certificate = same_certificate node state m next.high in
    same_state (collected node (grown node state m)) (collected node (grown node kept m))
    refl refl refl
    (fun_ext (λ round. fun_ext (λ author. unless_same one other round ((grown node state m).votes round author) ((grown node kept m).votes round author) floors
    (λ high. ap (λ o. option_or o (option_map (λ header. header_digest header.body) (header_at m round author))) (sym (unless low round (state.votes round author) (before round high)))))))
    (fun_ext (λ round. unless_same one other round ((grown node state m).own_headers round) ((grown node kept m).own_headers round) floors
    (λ high. ap (λ o. option_or o (header_at m round node.own.0)) (sym (unless low round (state.own_headers round) (before round high))))))
    (fun_ext (λ round. fun_ext (λ voter. unless_same one other round ((grown node state m).counted round voter) ((grown node kept m).counted round voter) floors
    (λ high. ap (λ o. option_or o (vote_at node m round voter)) (sym (unless low round (state.counted round voter) (before round high)))))))
    (fun_ext (λ round. fun_ext (λ author. slot_same one other round ((grown node state m).slots round author) ((grown node kept m).slots round author) floors
    (λ above. same.same round author (omega (arith, above, rises))))))
    (ap (λ c. highest_with state.highest c) (sym certificate))
    refl
    (same_order node state m next)
