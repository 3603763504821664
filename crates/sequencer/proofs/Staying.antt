-- An event that adds neither a certificate nor a coin leaves the order's parts as they were.
use Rattle.std.proofs.Common.{◌≡◌, ℕ, ◌≤◌, [], ◌++◌, map, Some, None, inl, inr, refl, ap, sym, ◌∙◌, arith}
use Rattle.std.proofs.Math.Path.{fun_ext}
use Rattle.std.specs.Prelude.{nat_lt, option_map, if◌then◌else◌}
use Rattle.std.specs.Option.{option_to_list}
use Rattle.std.proofs.lemmas.Bool.{cases_Bool, ltb-true}
use Rattle.std.proofs.lemmas.List.{append-nil}
use Rattle.spec_model.specs.Holdings.{ledger_of}
use Rattle.spec_model.specs.Nodes.{Node}
use Rattle.spec_model.specs.Ordering.{is_past, segments, floor_by}
use Rattle.spec_model.specs.Slots.{Slots, certificate_digest}
use Rattle.spec_model.specs.States.{State, ledger_in, floor_in}
use Rattle.spec_model.specs.Words.{Certificate, Event}
use Rattle.spec_laws.proofs.Lengthening.{newer_none}
use Rattle.spec_laws.proofs.Lists.{given_or_none}
use Rattle.spec_laws.proofs.SlotsGrow.{or_none}
use Rattle.spec_machine.specs.Machine.{certificate_of, slots_with, last_leader, newly_ordered, grown, after}
use Rattle.tusk.specs.Chain.{slot_of}
use Rattle.sequencer.specs.Laws.{SequenceStays}

-- slots stay where nothing is added
pub slots_same : (node : Node) (state : State) (event : Event) → certificate_of node state event.message ≡ None → (grown node state event.message).slots ≡ state.slots
slots_same node state event none =
    ap (slots_with state.slots) none ∙ fun_ext (λ round. fun_ext (λ author. or_none (state.slots round author)))

-- below the floor nothing is held
nothing_below : (node : Node) (state : State) (floor round author : ℕ) → ((r a : ℕ) (c : Certificate) → state.slots r a ≡ Some c → floor ≤ r)
    → (if nat_lt round floor then None else state.slots round author) ≡ state.slots round author
nothing_below node state floor round author above =
    elim (cases_Bool (nat_lt round floor)) [
      | inr high ↦ rw high refl
      | inl low ↦ elim (given_or_none (state.slots round author)) [
        | inl found ↦ let less = ltb-true round floor low in let least = above round author found.0 found.1 in absurd (omega (arith, less, least))
        | inr none ↦ rw (low, none) refl
      ]
    ]

pub sequence_stays : SequenceStays
sequence_stays node state event sequence comes no_certificate no_coin =
    let at = comes.at in
    let later = grown node state event.message in
    let following = after node state event in
    let before = ledger_in node state in
    let slots = slots_same node state event no_certificate in
    let coins : later.coins ≡ state.coins = ap (λ o. state.coins ++ option_to_list o) no_coin ∙ append-nil state.coins in
    let now : ledger_in node later ≡ before = ap (λ (s : Slots). ledger_of node s later.coins) slots ∙ ap (ledger_of node state.slots) coins in
    let kept : following.slots ≡ state.slots =
    fun_ext (λ round. fun_ext (λ author.
    ap (λ (f : ℕ). if nat_lt round f then None else later.slots round author) (ap floor_by now)
    ∙ ap (λ (s : Slots). if nat_lt round (floor_in node state) then None else s round author) slots
    ∙ nothing_below node state (floor_in node state) round author comes.comes.sound.certificates.above)) in
    let same : ledger_in node following ≡ before = ap (λ (s : Slots). ledger_of node s later.coins) kept ∙ ap (ledger_of node state.slots) coins in
    let ordered : newly_ordered before (ledger_in node later) ≡ [] =
    ap (newly_ordered before) now ∙ ap (λ l. map (λ (c : Certificate). certificate_digest c.header) (segments before (last_leader before) l)) (newer_none before) in
    record {
      charter = at.charter;
      slots = at.slots ∙ sym kept;
      coins = at.coins ∙ sym coins;
      order = at.order ∙ sym (ap (λ l. state.order ++ l) ordered ∙ append-nil state.order);
      floor = at.floor ∙ sym (ap floor_by same);
      last = at.last ∙ sym (ap (λ l. option_map slot_of (last_leader l)) same);
      base = at.base;
      marked = λ round author c held. at.marked round author c held ∙ sym (ap (λ l. is_past l (last_leader l) c) same);
    }
