-- What a sequencer has after an event is what the state after it has.
use Rattle.std.proofs.Common.{◌≡◌, ℕ, ◌-◌, ◌*◌, ◌≤◌, max, false, length, Option, Some, None, inl, inr, refl, ap, sym, ◌∙◌, subst, arith}
use Rattle.std.proofs.Math.Path.{fun_ext}
use Rattle.std.specs.Prelude.{nat_lt, option_map, option_and_then, if◌then◌else◌}
use Rattle.std.specs.Option.{option_map_or}
use Rattle.std.proofs.lemmas.Bool.{cases_Bool}
use Rattle.std.proofs.lemmas.Option.{none-some}
use Rattle.committee.specs.Charter.{Charter}
use Rattle.spec_laws.specs.Laws.{HoldsFrom}
use Rattle.spec_model.specs.Nodes.{Node, IsNode}
use Rattle.spec_model.specs.Ordering.{leader, top, is_past}
use Rattle.spec_model.specs.Slots.{Slots, reaches}
use Rattle.spec_model.specs.States.{State, ledger_in, floor_in}
use Rattle.spec_model.specs.Words.{Author, Certificate, Event}
use Rattle.spec_laws.proofs.Closed.{floor_of}
use Rattle.spec_laws.proofs.Growing.{Extends, IsIn, WasHeld}
use Rattle.spec_laws.proofs.Lists.{given_or_none}
use Rattle.spec_machine.specs.Machine.{last_leader, grown, after}
use Rattle.spec_machine.specs.Sound.{IsSound}
use Rattle.dag.specs.Changes.{IsDropped}
use Rattle.dag.specs.Graph.{DagView, IsGraph, size_in, slots_in, marked_in}
use Rattle.dag.specs.Graph as dag
use Rattle.dag.proofs.Dropping.{still_reaches}
use Rattle.tusk.specs.Chain.{slot_of}
use Rattle.sequencer.specs.Laws.{AreKnown}
use Rattle.sequencer.specs.Sequence.{SequencerView, IsAt, ComesTo}
use Rattle.sequencer.proofs.Preparing.{last_held, last_none}

-- ---- the state after an event

-- it is sound, its floor is no lower, and its floor and its last leader are those of all that there is with the event
pub record IsAfter (node : Node) (state : State) (event : Event) : Type 0 where
  pub sound : IsSound node (after node state event)
  pub rises : floor_in node state ≤ floor_in node (grown node state event.message)
  pub floors : floor_in node (grown node state event.message) ≡ floor_in node (after node state event)
  pub lasts : last_leader (ledger_in node (grown node state event.message)) ≡ last_leader (ledger_in node (after node state event))

pub is_after : AreKnown → (node : Node) (state : State) (event : Event) (sequence : SequencerView) → ComesTo node state event sequence
    → Extends state.slots (grown node state event.message).slots → IsAfter node state event
is_after known node state event sequence comes ext =
    let later = grown node state event.message in
    let reached = after node state event in
    let low = floor_in node reached in
    let sound = known.sound_stays node state event comes.comes.node_is comes.comes.sound comes.comes.taken comes.comes.new in
    let whole : HoldsFrom 0 later.slots later.slots = record { placed = ext.placed_after; same = λ round author above. refl } in
    let from = (known.enough_after node state event 0 later.slots comes.comes.node_is comes.comes.sound comes.comes.taken comes.comes.new (omega arith) whole).afterwards in
    let same = known.enough_now node reached low later.slots comes.comes.node_is sound (omega arith) from in
    let stands = (known.state_stands node state event comes.comes.node_is comes.comes.sound comes.comes.taken comes.comes.new).floor in
    let floors = same.same_floor in
    record {
      sound = sound;
      rises = omega (arith, stands, floors);
      floors = floors;
      lasts = elim (given_or_none (top (ledger_in node reached))) [
        | inr none ↦ last_none (ledger_in node later) (same.same_top ∙ none) ∙ sym (last_none (ledger_in node reached) none)
        | inl found ↦
            let floor : low ≡ (2 * found.0 - 1) - node.charter.depth = ap (floor_of node) found.1 in
            ap (λ o. option_and_then (leader (ledger_in node later)) o) (same.same_top ∙ found.1)
            ∙ same.same_leader found.0 (omega (arith, floor))
            ∙ sym (ap (λ o. option_and_then (leader (ledger_in node reached)) o) found.1)
      ];
    }

-- ---- a DAG with all that an event adds

-- what a DAG has of that, with the marks of the last leader, before what lies below the new floor is dropped
pub record IsGrownTo (node : Node) (state : State) (event : Event) (graph : DagView) : Type 0 where
  pub charter : graph.charter ≡ node.charter
  pub slots : slots_in graph ≡ (grown node state event.message).slots
  pub floor : graph.floor ≡ floor_in node state
  pub base : graph.base ≡ option_map_or (λ (slot : ℕ × Author). slot.0) (option_map slot_of (last_leader (ledger_in node (grown node state event.message)))) 1
  pub marked : (round author : ℕ) (c : Certificate) → floor_in node (grown node state event.message) ≤ round → slots_in graph round author ≡ Some c
      → marked_in graph round author ≡ is_past (ledger_in node (grown node state event.message)) (last_leader (ledger_in node (grown node state event.message))) c

-- what is held after a drop was held, and lies no lower
pub kept_above : (before later : DagView) (low round author : ℕ) (c : Certificate) → IsDropped before later low → slots_in later round author ≡ Some c
    → (low ≤ round) × (slots_in before round author ≡ Some c)
kept_above before later low round author c dropped held =
    elim (cases_Bool (nat_lt round low)) [
      | inl below ↦
          let nothing = sym (dropped.slots round author ∙ ap (λ b. if b then None else slots_in before round author) below) ∙ held in
          absurd (none-some c nothing)
      | inr above ↦
          (not_less round low above, sym (dropped.slots round author ∙ ap (λ b. if b then None else slots_in before round author) above) ∙ held)
    ]
  where
    not_less : (one other : ℕ) → nat_lt one other ≡ false → other ≤ one
    not_less one other not = grind (arith, not)

-- the reach of what slots hold is that of the certificates
reach_is : (graph : DagView) (round author : ℕ) (last c : Certificate) → IsIn (slots_in graph) last → slots_in graph round author ≡ Some c
    → dag.reaches_in graph last.header.round last.header.author.0 round author ≡ reaches (size_in graph) (slots_in graph) last c
reach_is graph round author last c held there =
    ap (λ o. option_map_or (λ start. option_map_or (reaches (size_in graph) (slots_in graph) start) (slots_in graph round author) false) o false) held
    ∙ ap (λ o. option_map_or (reaches (size_in graph) (slots_in graph) last) o false) there

-- so is the past of a leader in a DAG that is a node's
past_is : (node : Node) (graph : DagView) (state : State) (round author : ℕ) (last c : Certificate) → graph.charter ≡ node.charter → slots_in graph
    ≡ state.slots → IsIn state.slots last → slots_in graph round author ≡ Some c
    → dag.reaches_in graph last.header.round last.header.author.0 round author ≡ is_past (ledger_in node state) (Some last) c
past_is node graph state round author last c charter slots held there =
    reach_is graph round author last c (subst (λ (s : Slots). IsIn s last) (sym slots) held) there
    ∙ ap (λ (x : Charter). reaches (length x.keys) (slots_in graph) last c) charter
    ∙ ap (λ (s : Slots). reaches (length node.charter.keys) s last c) slots

past_stays : (node : Node) (state : State) (event : Event) (graph later : DagView) → IsAfter node state event → IsNode node → IsGraph graph
    → IsGrownTo node state event graph → IsDropped graph later (floor_in node (grown node state event.message))
    → slots_in later ≡ (after node state event).slots → (round author : ℕ) (c : Certificate) → slots_in later round author ≡ Some c → (last : Option Certificate)
    → WasHeld (after node state event).slots last → is_past (ledger_in node (grown node state event.message)) last c ≡ is_past (ledger_in node (after node state event)) last c
past_stays node state event graph later back node_is sound is dropped slots round author c held None was = refl
past_stays node state event graph later back node_is sound is dropped slots round author c held (Some last) was =
    let low = floor_in node (grown node state event.message) in
    let kept = kept_above graph later low round author c dropped held in
    let here = was last refl in
    let there : slots_in later last.header.round last.header.author.0 ≡ Some last = ap (λ (s : Slots). s last.header.round last.header.author.0) slots ∙ here in
    let old = (kept_above graph later low last.header.round last.header.author.0 last dropped there).1 in
    sym (past_is node graph (grown node state event.message) round author last c is.charter is.slots (ap (λ (s : Slots). s last.header.round last.header.author.0) (sym is.slots) ∙ old) kept.1)
    ∙ sym (still_reaches graph later low sound dropped last.header.round last.header.author.0 round author kept.0)
    ∙ past_is node later (after node state event) round author last c (dropped.charter ∙ is.charter) slots here held

greatest : (one other : ℕ) → one ≤ other → max one other ≡ other
greatest one other less = grind (arith, less)

not_below : (one other : ℕ) → one ≤ other → nat_lt other one ≡ false
not_below one other above = grind (arith, above)

-- without what lies below the new floor it is the DAG of the state after the event
pub stands : (node : Node) (state : State) (event : Event) (before sequence : SequencerView) (graph : DagView) → ComesTo node state event before
    → IsAfter node state event → IsGraph graph → IsGrownTo node state event graph
    → IsDropped graph sequence.graph (floor_in node (grown node state event.message)) → sequence.coins ≡ (grown node state event.message).coins
    → sequence.order ≡ (grown node state event.message).order
    → sequence.last ≡ option_map slot_of (last_leader (ledger_in node (grown node state event.message))) → IsAt node (after node state event) sequence
stands node state event before sequence graph comes back sound is dropped coins order last =
    let later = grown node state event.message in
    let reached = after node state event in
    let low = floor_in node later in
    let rises = back.rises in
    let slots : slots_in sequence.graph ≡ reached.slots =
    fun_ext (λ round. fun_ext (λ author.
    dropped.slots round author ∙ ap (λ (s : Slots). if nat_lt round low then None else s round author) is.slots)) in
    record {
      charter = dropped.charter ∙ is.charter;
      slots = slots;
      coins = coins;
      order = order;
      floor = dropped.floor ∙ ap (λ f. max f low) is.floor ∙ greatest (floor_in node state) low rises ∙ back.floors;
      last = last ∙ ap (option_map slot_of) back.lasts;
      base = dropped.base ∙ is.base ∙ sym (ap (λ o. option_map_or (λ (slot : ℕ × Author). slot.0) o 1) last);
      marked = λ round author c held.
          let kept = kept_above graph sequence.graph low round author c dropped held in
          let not = not_below low round kept.0 in
          dropped.marked round author ∙ ap (λ b. if b then false else marked_in graph round author) not
          ∙ is.marked round author c kept.0 kept.1
          ∙ ap (λ o. is_past (ledger_in node later) o c) back.lasts
          ∙ past_stays node state event graph sequence.graph back comes.comes.node_is sound is dropped slots round author c held
          (last_leader (ledger_in node reached)) (last_held node reached comes.comes.node_is back.sound);
    }
