-- What the leaders order that are newer after a step, over what the DAG held before it.
use Rattle.std.proofs.Common.{◌≡◌, ℕ, suc, ◌+◌, ◌-◌, ◌*◌, ◌/◌, ◌<◌, ◌≤◌, true, false, List, [], ◌∷◌, ◌++◌, map, length, Option, Some, None, inl, inr, refl, ap, sym, ◌∙◌, subst, arith}
use Rattle.std.specs.Prelude.{is_some, option_map, option_and_then, slice_get, Contains}
use Rattle.std.specs.Option.{option_map_or, option_to_list}
use Rattle.std.proofs.lemmas.List.{map-append, length-append}
use Rattle.std.proofs.lemmas.Option.{same_Some, none-some}
use Rattle.committee.specs.Charter.{Charter}
use Rattle.spec_model.specs.Histories.{as_coin}
use Rattle.spec_model.specs.Nodes.{Node, IsNode}
use Rattle.spec_model.specs.Ordering.{Ledger, leader, top, newer, last_wave, is_past, segments}
use Rattle.spec_model.specs.Slots.{Slots, certificate_digest, reaches}
use Rattle.spec_model.specs.States.{State}
use Rattle.spec_model.specs.States as states
use Rattle.spec_model.specs.Words.{Author, Certificate, Digest, Event}
use Rattle.spec_laws.proofs.Growing.{Extends, IsIn, WasHeld, leader_in, segments_same}
use Rattle.spec_laws.proofs.Lists.{given_or_none, Contains-first, Contains-later}
use Rattle.spec_laws.proofs.OrderGrows.{members_some}
use Rattle.spec_laws.proofs.OrderLonger.{top_leader, leader_place, newer_ends}
use Rattle.spec_machine.specs.Machine.{last_leader, newly_ordered, grown}
use Rattle.spec_machine.specs.Sound.{IsSound}
use Rattle.dag.specs.Graph.{DagView, size_in, slots_in}
use Rattle.dag.specs.Graph as dag
use Rattle.tusk.specs.Chain.{ledger_in, slot_of, base_of}
use Rattle.tusk.specs.Chain as chain
use Rattle.flatten.specs.Segments.{leader_held, digests_of, leaders_in, AreLinked, IsMarkedPast}
use Rattle.sequencer.specs.Sequence.{SequencerView, IsAt, wave_in}
use Rattle.sequencer.proofs.Chaining.{AreChained, chained_held, newer_chained, steps, same_last, higher_last}
use Rattle.sequencer.proofs.Rooting.{reaches_last}

-- ---- the state's ledger

pub same_ledger : (node : Node) (state : State) (sequence : SequencerView) → IsAt node state sequence → ledger_in sequence.graph sequence.coins ≡ states.ledger_in node state
same_ledger node state sequence at =
    ap (λ (x : Charter). let l : Ledger = record { charter = x; slots = slots_in sequence.graph; coins = sequence.coins } in l) at.charter
    ∙ ap (λ (x : Slots). let l : Ledger = record { charter = node.charter; slots = x; coins = sequence.coins } in l) at.slots
    ∙ ap (λ (x : List ℕ). let l : Ledger = record { charter = node.charter; slots = state.slots; coins = x } in l) at.coins

-- the last leader of a sound state is held; it has the first round of its wave
pub record IsLast (ledger : Ledger) (wave : ℕ) (last : Certificate) : Type 0 where
  pub is_top : top ledger ≡ Some (suc wave)
  pub is_wave : last_wave ledger ≡ suc wave
  pub is_last : last_leader ledger ≡ Some last
  pub level : last.header.round ≡ 2 * wave + 1
  pub held : IsIn ledger.slots last

pub last_at : (node : Node) (state : State) → IsNode node → IsSound node state → (greatest : ℕ) → top (states.ledger_in node state) ≡ Some greatest
    → (wave : ℕ) × (last : Certificate) × IsLast (states.ledger_in node state) wave last
last_at node state node_is sound greatest found =
    let ledger = states.ledger_in node state in
    let lead = top_leader ledger greatest found in
    let wave = greatest - 1 in (
      wave,
      lead.0,
      record {
        is_top = lead.1;
        is_wave = ap (λ o. option_map_or (λ w. w) o 0) lead.1;
        is_last = ap (λ o. option_and_then (leader ledger) o) lead.1 ∙ lead.2;
        level = (leader_place ledger wave lead.0 (members_some node node_is) sound.certificates.placed lead.2).0;
        held = leader_in ledger (suc wave) lead.0 sound.certificates.placed lead.2;
      },
    )

pub last_none : (ledger : Ledger) → top ledger ≡ None → last_leader ledger ≡ None
last_none ledger none = ap (λ o. option_and_then (leader ledger) o) none

pub last_held : (node : Node) (state : State) → IsNode node → IsSound node state → WasHeld state.slots (last_leader (states.ledger_in node state))
last_held node state node_is sound c is =
    let ledger = states.ledger_in node state in
    elim (given_or_none (top ledger)) [
      | inr none ↦ absurd (none-some c (sym (last_none ledger none) ∙ is))
      | inl found ↦ let last = last_at node state node_is sound found.0 found.1 in subst (IsIn state.slots) (same_Some last.1 c (sym last.2.is_last ∙ is)) last.2.held
    ]

-- so the last committed wave is that of the sequencer's slot, and the base the slot's round
pub at_wave : (node : Node) (state : State) (sequence : SequencerView) → IsNode node → IsSound node state → IsAt node state sequence → chain.IsAt sequence.graph sequence.coins (wave_in sequence.last)
at_wave node state sequence node_is sound at =
    let ledger = states.ledger_in node state in
    elim (given_or_none (top ledger)) [
      | inr none ↦
          let last : sequence.last ≡ None = at.last ∙ ap (option_map slot_of) (last_none ledger none) in
          record {
            base = at.base ∙ ap (λ o. option_map_or (λ (slot : ℕ × Author). slot.0) o 1) last ∙ sym (ap (λ o. base_of (wave_in o)) last);
            top = ap top (same_ledger node state sequence at) ∙ none ∙ sym (ap wave_in last);
          }
      | inl found ↦
          let is = last_at node state node_is sound found.0 found.1 in
          let l = is.1 in
          let level = is.2.level in
          let last : sequence.last ≡ Some (slot_of l) = at.last ∙ ap (option_map slot_of) is.2.is_last in
          let half : (l.header.round + 1) / 2 ≡ suc is.0 = omega (arith, level) in
          let odd : l.header.round ≡ 2 * ((l.header.round + 1) / 2) - 1 = omega (arith, level) in
          record {
            base = at.base ∙ ap (λ o. option_map_or (λ (slot : ℕ × Author). slot.0) o 1) last ∙ odd ∙ sym (ap (λ o. base_of (wave_in o)) last);
            top = ap top (same_ledger node state sequence at) ∙ is.2.is_top ∙ sym (ap (λ w. Some w) half) ∙ sym (ap wave_in last);
          }
    ]

pub wave_is : (node : Node) (state : State) (sequence : SequencerView) → IsNode node → IsSound node state → IsAt node state sequence
    → chain.wave_of (wave_in sequence.last) ≡ last_wave (states.ledger_in node state)
wave_is node state sequence node_is sound at =
    let is = at_wave node state sequence node_is sound at in
    ap chain.wave_of (sym is.top ∙ ap top (same_ledger node state sequence at))

-- the last leader's round is below twice its wave
pub below_wave : (node : Node) (state : State) (sequence : SequencerView) → IsNode node → IsSound node state → IsAt node state sequence
    → option_map_or (λ (s : ℕ × Author). s.0) sequence.last 0 ≤ 2 * last_wave (states.ledger_in node state)
below_wave node state sequence node_is sound at =
    elim (given_or_none (top (states.ledger_in node state))) [
      | inr none ↦
          let last : option_map_or (λ (s : ℕ × Author). s.0) sequence.last 0 ≡ 0 =
          ap (λ o. option_map_or (λ (s : ℕ × Author). s.0) o 0) (at.last ∙ ap (option_map slot_of) (last_none (states.ledger_in node state) none)) in
          omega (arith, last)
      | inl found ↦
          let is = last_at node state node_is sound found.0 found.1 in
          let last : option_map_or (λ (s : ℕ × Author). s.0) sequence.last 0 ≡ is.1.header.round =
          ap (λ o. option_map_or (λ (s : ℕ × Author). s.0) o 0) (at.last ∙ ap (option_map slot_of) is.2.is_last) in
          let level = is.2.level in
          let wave = is.2.is_wave in
          omega (arith, last, level, wave)
    ]

-- ---- slots and certificates

pub held_last : (graph : DagView) (previous : Option Certificate) → WasHeld (slots_in graph) previous → leader_held graph (option_map slot_of previous) ≡ previous
held_last graph None held = refl
held_last graph (Some c) held = held c refl

leaders_are : (graph : DagView) (certificates : List Certificate) → ((c : Certificate) → Contains certificates c → IsIn (slots_in graph) c) → leaders_in graph (map slot_of certificates) ≡ certificates
leaders_are graph [] held = refl
leaders_are graph (c ∷ certificates) held =
    let here = held c (Contains-first certificates c) in
    let rest = leaders_are graph certificates (λ d inside. held d (Contains-later c certificates d inside)) in
    rw here (ap (λ l. c ∷ l) rest)

pub linked : (graph : DagView) (coins : List ℕ) (previous : Option Certificate) (certificates : List Certificate)
    → AreChained (ledger_in graph coins) previous certificates → WasHeld (slots_in graph) previous
    → AreLinked graph (option_map slot_of previous) (map slot_of certificates)
linked graph coins previous [] chained was = tt
linked graph coins previous (c ∷ certificates) chained was = (
  ap is_some chained.0,
  reached previous was chained.1,
  linked graph coins (Some c) certificates chained.2 (λ d is. subst (IsIn (slots_in graph)) (same_Some c d is) chained.0),
)
  where
    reached : (before : Option Certificate) → WasHeld (slots_in graph) before → option_map_or (reaches (size_in graph) (slots_in graph) c) before true ≡ true
        → option_map_or (λ (slot : ℕ × Author). dag.reaches_in graph c.header.round c.header.author.0 slot.0 slot.1.0) (option_map slot_of before) true ≡ true
    reached None held is = refl
    reached (Some p) held is =
        ap (λ o. option_map_or (λ start. option_map_or (reaches (size_in graph) (slots_in graph) start) (slots_in graph p.header.round p.header.author.0) false) o false) chained.0
        ∙ ap (λ o. option_map_or (reaches (size_in graph) (slots_in graph) c) o false) (held p refl) ∙ is

last_after : {X : Type 0} (front : List X) (x : X) → slice_get (front ++ x ∷ []) (length (front ++ x ∷ []) - 1) ≡ Some x
last_after [] x = refl
last_after (y ∷ front) x =
    let more : length (front ++ x ∷ []) ≡ length front + 1 = length-append front (x ∷ []) in
    let next : length (y ∷ (front ++ x ∷ [])) - 1 ≡ suc (length (front ++ x ∷ []) - 1) = omega (arith, more) in
    ap (slice_get (y ∷ (front ++ x ∷ []))) next ∙ last_after front x

-- ---- the chain of a step

-- what its leaders are over what the DAG held before it
pub record IsChainOf (node : Node) (state : State) (event : Event) (sequence : SequencerView) (slots : List (ℕ × Author)) : Type 0 where
  pub linked : AreLinked sequence.graph sequence.last slots
  pub digests : digests_of (segments (ledger_in sequence.graph sequence.coins) (leader_held sequence.graph sequence.last) (leaders_in sequence.graph slots))
      ≡ newly_ordered (states.ledger_in node state) (states.ledger_in node (grown node state event.message))
  pub none : slots ≡ [] → option_map slot_of (last_leader (states.ledger_in node (grown node state event.message))) ≡ sequence.last
  pub some : (slot : ℕ × Author) → slice_get slots (length slots - 1) ≡ Some slot
      → (option_map slot_of (last_leader (states.ledger_in node (grown node state event.message))) ≡ Some slot) × (option_map_or (λ (s : ℕ × Author). s.0) sequence.last 0 < slot.0)

pub marked_past : (node : Node) (state : State) (sequence : SequencerView) → IsNode node → IsSound node state → IsAt node state sequence → (low : ℕ)
    → IsMarkedPast sequence.graph low (leader_held sequence.graph sequence.last)
marked_past node state sequence node_is sound at low round author c above held =
    let before = states.ledger_in node state in
    let previous = last_leader before in
    let was : WasHeld (slots_in sequence.graph) previous = subst (λ (s : Slots). WasHeld s previous) (sym at.slots) (last_held node state node_is sound) in
    let last : leader_held sequence.graph sequence.last ≡ previous = ap (leader_held sequence.graph) at.last ∙ held_last sequence.graph previous was in
    at.marked round author c held
    ∙ sym (ap (λ (l : Ledger). is_past l previous c) (same_ledger node state sequence at))
    ∙ sym (ap (λ o. is_past (ledger_in sequence.graph []) o c) last)

pub chain_of : (node : Node) (state : State) (event : Event) (sequence : SequencerView) → IsNode node → IsSound node state → IsAt node state sequence
    → Extends state.slots (grown node state event.message).slots
    → (slots : List (ℕ × Author)) → slots
    ≡ map slot_of (newer (states.ledger_in node (grown node state event.message)) (last_wave (states.ledger_in node state)))
    → IsChainOf node state event sequence slots
chain_of node state event sequence node_is sound at ext slots all =
    let before = states.ledger_in node state in
    let later = (grown node state event.message).slots in
    let more = option_to_list (as_coin event.message) in
    let now = states.ledger_in node (grown node state event.message) in
    let graph = sequence.graph in
    let base = last_wave before in
    let leaders = newer now base in
    let previous = last_leader before in
    let same = same_ledger node state sequence at in
    let was_before = last_held node state node_is sound in
    let was : WasHeld (slots_in graph) previous = subst (λ (s : Slots). WasHeld s previous) (sym at.slots) was_before in
    let chained : AreChained before previous leaders = newer_chained before later ext node_is.charter more previous (reaches_last node state node_is sound) in
    let held_before = chained_held before previous leaders chained in
    let held : (c : Certificate) → Contains leaders c → IsIn (slots_in graph) c = λ c inside. subst (λ (s : Slots). IsIn s c) (sym at.slots) (held_before c inside) in
    let last : leader_held graph sequence.last ≡ previous = ap (leader_held graph) at.last ∙ held_last graph previous was in
    let digests : List Certificate → List Digest = map (λ c. certificate_digest c.header) in
    record {
      linked = subst (AreLinked graph sequence.last) (sym all)
          (subst (λ (o : Option (ℕ × Author)). AreLinked graph o (map slot_of leaders)) (sym at.last)
          (linked graph sequence.coins previous leaders (subst (λ (l : Ledger). AreChained l previous leaders) (sym same) chained) was));
      digests = ap (λ o. digests (segments (ledger_in graph sequence.coins) o (leaders_in graph slots))) last
          ∙ ap (λ l. digests (segments (ledger_in graph sequence.coins) previous l)) (ap (leaders_in graph) all ∙ leaders_are graph leaders held)
          ∙ ap (λ (l : Ledger). digests (segments l previous leaders)) same
          ∙ sym (ap digests (segments_same before later ext more previous leaders was_before held_before));
      none = λ empty. elim (steps before later ext more) [
        | inl is ↦ ap (option_map slot_of) (same_last before later ext more is) ∙ sym at.last
        | inr higher ↦
            let ends = newer_ends now base higher.0 higher.1 in
            let full : [] ≡ map slot_of ends.0 ++ slot_of higher.1 ∷ [] = sym empty ∙ all ∙ ap (map slot_of) (higher.2.all ∙ ends.1) ∙ map-append slot_of ends.0 (higher.1 ∷ []) in
            absurd (nothing_pushed (map slot_of ends.0) (slot_of higher.1) full)
      ];
      some = λ slot ends_with. elim (steps before later ext more) [
        | inl is ↦
            let nothing : slots ≡ [] = all ∙ ap (map slot_of) is.none in
            absurd (none-some slot (sym (ap (λ l. slice_get l (length l - 1)) nothing) ∙ ends_with))
        | inr higher ↦
            let ends = newer_ends now base higher.0 higher.1 in
            let full : slots ≡ map slot_of ends.0 ++ slot_of higher.1 ∷ [] = all ∙ ap (map slot_of) (higher.2.all ∙ ends.1) ∙ map-append slot_of ends.0 (higher.1 ∷ []) in
            let found = ap (λ l. slice_get l (length l - 1)) full ∙ last_after (map slot_of ends.0) (slot_of higher.1) in
            let same_slot : slot_of higher.1 ≡ slot = same_Some (slot_of higher.1) slot (sym found ∙ ends_with) in
            let level = (leader_place now higher.0 higher.1 (members_some node node_is) ext.placed_after higher.2.leads).0 in
            let round : higher.1.header.round ≡ slot.0 = ap (λ (s : ℕ × Author). s.0) same_slot in
            let lower = below_wave node state sequence node_is sound at in
            let least = higher.2.low in (
              ap (option_map slot_of) (higher_last before now higher.0 higher.1 higher.2) ∙ ap (λ s. Some s) same_slot,
              omega (arith, level, round, lower, least),
            )
      ];
    }
  where
    nothing_pushed : {X : Type 0} (front : List X) (x : X) → [] ≡ front ++ x ∷ [] → ⊥
    nothing_pushed [] x is = absurd cc
    nothing_pushed (y ∷ front) x is = absurd cc
