-- What was prepared, once it is done, leaves the sequencer at the state after the event.
use Rattle.std.proofs.Common.{◌≡◌, ℕ, suc, ◌+◌, ◌-◌, ◌*◌, ◌<◌, max, true, false, [], ◌∷◌, ◌++◌, length, Option, Some, None, inl, inr, refl, ap, sym, ◌∙◌, subst, arith}
use Rattle.std.proofs.Math.Path.{fun_ext}
use Rattle.std.specs.Prelude.{nat_lt, option_map, option_and_then, if◌then◌else◌}
use Rattle.std.specs.Option.{option_map_or, option_to_list}
use Rattle.std.proofs.lemmas.Bool.{cases_Bool, ltb-true}
use Rattle.std.proofs.lemmas.List.{append-nil}
use Rattle.std.proofs.lemmas.Option.{same_Some, none-some}
use Rattle.committee.specs.Charter.{Charter}
use Rattle.spec_model.specs.Histories.{as_coin}
use Rattle.spec_model.specs.Nodes.{Node, IsNode}
use Rattle.spec_model.specs.Ordering.{Ledger, leader, top, is_past}
use Rattle.spec_model.specs.Slots.{Slots, is_of_slot}
use Rattle.spec_model.specs.States.{State, ledger_in, floor_in}
use Rattle.spec_model.specs.Words.{Author, Certificate, Event}
use Rattle.spec_laws.proofs.Closed.{floor_of}
use Rattle.spec_laws.proofs.Growing.{Extends, WasHeld, leader_in, reaches_same, reaches_new}
use Rattle.spec_laws.proofs.Lists.{given_or_none}
use Rattle.spec_laws.proofs.OrderGrows.{members_some}
use Rattle.spec_laws.proofs.OrderLonger.{top_leader, leader_place}
use Rattle.spec_machine.specs.Machine.{certificate_of, last_leader, grown, after}
use Rattle.dag.specs.Changes.{IsWith, IsDropped}
use Rattle.dag.specs.Graph.{DagView, IsGraph, Placed, size_in, placed_at, slots_in, marked_in}
use Rattle.tusk.specs.Chain.{slot_of}
use Rattle.tusk.specs.Chain as chain
use Rattle.flatten.specs.Laws.{MadeStays}
use Rattle.flatten.specs.Lengthening.{LengtheningView, FitsTo}
use Rattle.flatten.specs.Segments.{leader_held}
use Rattle.sequencer.specs.Laws.{AreKnown}
use Rattle.sequencer.specs.Sequence.{SequencerView, IsAt, ComesTo, IsPrepared, IsCommitted, CommitsTo, prepared_digests}
use Rattle.sequencer.specs.declared.prepared.Prepared.{Prepared}
use Rattle.sequencer.proofs.Chaining.{IsSame, steps, same_last, higher_last}
use Rattle.sequencer.proofs.Coming.{new_in, no_coin}
use Rattle.sequencer.proofs.Growing.{later_slots, certificate_extends, above_last, coin_slots, coin_extends}
use Rattle.sequencer.proofs.Preparing.{last_held, last_none, below_wave}
use Rattle.sequencer.proofs.Standing.{IsGrownTo, is_after, stands}

-- ---- the DAG's growth

-- a DAG has the certificate that an event adds, if any, and that has no mark
pub record IsStepped (node : Node) (state : State) (event : Event) (before later : DagView) : Type 0 where
  pub sound : IsGraph later
  pub charter : later.charter ≡ before.charter
  pub floor : later.floor ≡ before.floor
  pub base : later.base ≡ before.base
  pub slots : slots_in later ≡ (grown node state event.message).slots
  pub marked : (round author : ℕ) → marked_in later round author ≡ marked_in before round author

-- what isn't held has no mark
unmarked : (graph : DagView) (round author : ℕ) → slots_in graph round author ≡ None → marked_in graph round author ≡ false
unmarked graph round author none = on (placed_at graph round author) none
  where
    on : (placed : Option Placed) → option_map (λ p. p.certificate) placed ≡ None → option_map_or (λ p. p.marked) placed false ≡ false
    on None is = refl
    on (Some p) is = absurd cc

-- ---- where no leader is newer

past_same : (node : Node) (state : State) (event : Event) → Extends state.slots (grown node state event.message).slots → (last : Option Certificate) (c : Certificate) → WasHeld state.slots last
    → is_past (ledger_in node (grown node state event.message)) last c ≡ is_past (ledger_in node state) last c
past_same node state event ext None c held = refl
past_same node state event ext (Some last) c held = reaches_same (length node.charter.keys) state.slots (grown node state event.message).slots ext last c (held last refl)

past_new : (node : Node) (state : State) (event : Event) → Extends state.slots (grown node state event.message).slots
    → (last : Option Certificate) (round author : ℕ) (c : Certificate) → WasHeld state.slots last
    → state.slots round author ≡ None → (grown node state event.message).slots round author ≡ Some c → is_past (ledger_in node (grown node state event.message)) last c ≡ false
past_new node state event ext None round author c held none new = refl
past_new node state event ext (Some last) round author c held none new = reaches_new (length node.charter.keys) state.slots
    (grown node state event.message).slots ext last round author c (held last refl) none new

grown_same : (node : Node) (state : State) (event : Event) (sequence : SequencerView) (later : DagView) → ComesTo node state event sequence → Extends state.slots (grown node state event.message).slots
    → IsStepped node state event sequence.graph later → last_leader (ledger_in node (grown node state event.message)) ≡ last_leader (ledger_in node state) → IsGrownTo node state event later
grown_same node state event sequence later comes ext is last =
    let at = comes.at in
    let now = ledger_in node (grown node state event.message) in
    let before = ledger_in node state in
    let was = last_held node state comes.comes.node_is comes.comes.sound in
    record {
      charter = is.charter ∙ at.charter;
      slots = is.slots;
      floor = is.floor ∙ at.floor;
      base = is.base ∙ at.base ∙ ap (λ o. option_map_or (λ (slot : ℕ × Author). slot.0) o 1) (at.last ∙ ap (option_map slot_of) (sym last));
      marked = λ round author c above held.
          let new : (grown node state event.message).slots round author ≡ Some c = ap (λ (s : Slots). s round author) (sym is.slots) ∙ held in
          elim (given_or_none (state.slots round author)) [
            | inl old ↦
                let same = same_Some old.0 c (sym (ext.kept round author old.0 old.1) ∙ new) in
                let there : slots_in sequence.graph round author ≡ Some c = ap (λ (s : Slots). s round author) at.slots ∙ old.1 ∙ ap (λ d. Some d) same in
                is.marked round author ∙ at.marked round author c there
                ∙ sym (past_same node state event ext (last_leader before) c was)
                ∙ ap (λ o. is_past now o c) (sym last)
            | inr none ↦
                is.marked round author ∙ unmarked sequence.graph round author (ap (λ (s : Slots). s round author) at.slots ∙ none)
                ∙ sym (past_new node state event ext (last_leader before) round author c was none new)
                ∙ ap (λ o. is_past now o c) (sym last)
          ];
    }

-- nothing lies below the floor of a DAG
pub stays_dropped : (graph : DagView) (low : ℕ) → IsGraph graph → graph.floor ≡ low → IsDropped graph graph low
stays_dropped graph low sound floor = record {
  charter = refl;
  floor = most graph.floor low floor;
  base = refl;
  slots = λ round author. elim (cases_Bool (nat_lt round low)) [
    | inr above ↦ sym (ap (λ b. if b then None else slots_in graph round author) above)
    | inl below ↦ none_below round author below ∙ sym (ap (λ b. if b then None else slots_in graph round author) below)
  ];
  marked = λ round author. elim (cases_Bool (nat_lt round low)) [
    | inr above ↦ sym (ap (λ b. if b then false else marked_in graph round author) above)
    | inl below ↦ unmarked graph round author (none_below round author below) ∙ sym (ap (λ b. if b then false else marked_in graph round author) below)
  ];
  end = most_end graph.floor (length graph.rounds) low floor;
}
  where
    none_below : (round author : ℕ) → nat_lt round low ≡ true → slots_in graph round author ≡ None
    none_below round author below =
        elim (given_or_none (slots_in graph round author)) [
          | inr none ↦ none
          | inl found ↦ let less = ltb-true round low below in let least = sound.above round author found.0 found.1 in absurd (omega (arith, less, least, floor))
        ]

    most : (one other : ℕ) → one ≡ other → one ≡ max one other
    most one other same = omega (arith, same)

    most_end : (one more other : ℕ) → one ≡ other → one + more ≡ max (one + more) other
    most_end one more other same = omega (arith, same)

-- nothing is newer where nothing is prepared
nothing_newer : (node : Node) (state : State) (event : Event) (sequence : SequencerView) → ComesTo node state event sequence → Extends state.slots (grown node state event.message).slots
    → option_map slot_of (last_leader (ledger_in node (grown node state event.message))) ≡ sequence.last → IsSame (ledger_in node state) (ledger_in node (grown node state event.message))
nothing_newer node state event sequence comes ext last =
    let before = ledger_in node state in
    let now = ledger_in node (grown node state event.message) in
    elim (steps before (grown node state event.message).slots ext (option_to_list (as_coin event.message))) [
      | inl same ↦ same
      | inr higher ↦
          let is : sequence.last ≡ Some (slot_of higher.1) = sym last ∙ ap (option_map slot_of) (higher_last before now higher.0 higher.1 higher.2) in
          let round : option_map_or (λ (s : ℕ × Author). s.0) sequence.last 0 ≡ higher.1.header.round = ap (λ o. option_map_or (λ (s : ℕ × Author). s.0) o 0) is in
          let place = leader_place now higher.0 higher.1 (members_some node comes.comes.node_is) ext.placed_after higher.2.leads in
          let lower = below_wave node state sequence comes.comes.node_is comes.comes.sound comes.at in
          let low = higher.2.low in
          absurd (omega (arith, round, place.0, lower, low))
    ]

-- ---- where leaders are committed

-- the last of them
pub record IsLastOf (ledger : Ledger) (slot : ℕ × Author) (wave : ℕ) (last : Certificate) : Type 0 where
  pub is_top : top ledger ≡ Some (suc wave)
  pub is_last : last_leader ledger ≡ Some last
  pub of : slot_of last ≡ slot
  pub level : slot.0 ≡ 2 * wave + 1
  pub held : ledger.slots slot.0 slot.1.0 ≡ Some last

last_of : (node : Node) (state : State) (slot : ℕ × Author) → IsNode node → ((round author : ℕ) (c : Certificate) → state.slots round author ≡ Some c → is_of_slot round author c.header ≡ true)
    → option_map slot_of (last_leader (ledger_in node state)) ≡ Some slot → (wave : ℕ) × (last : Certificate) × IsLastOf (ledger_in node state) slot wave last
last_of node state slot node_is placed is =
    let ledger = ledger_in node state in
    elim (given_or_none (top ledger)) [
      | inr none ↦ absurd (none-some slot (sym (ap (option_map slot_of) (last_none ledger none)) ∙ is))
      | inl found ↦
          let lead = top_leader ledger found.0 found.1 in
          let wave = found.0 - 1 in
          let last : last_leader ledger ≡ Some lead.0 = ap (λ o. option_and_then (leader ledger) o) lead.1 ∙ lead.2 in
          let of : slot_of lead.0 ≡ slot = same_Some (slot_of lead.0) slot (sym (ap (option_map slot_of) last) ∙ is) in
          let place = leader_place ledger wave lead.0 (members_some node node_is) placed lead.2 in
          let held = leader_in ledger (suc wave) lead.0 placed lead.2 in (
            wave,
            lead.0,
            record {
              is_top = lead.1;
              is_last = last;
              of = of;
              level = ap (λ (s : ℕ × Author). s.0) (sym of) ∙ place.0;
              held = ap (λ (s : ℕ × Author). state.slots s.0 s.1.0) (sym of) ∙ held;
            },
          )
    ]

-- the floor is the depth below its round
floor_is : (node : Node) (state : State) (slot : ℕ × Author) (wave : ℕ) (last : Certificate) → IsLastOf (ledger_in node state) slot wave last → floor_in node state ≡ slot.0 - node.charter.depth
floor_is node state slot wave last is =
    let level = is.level in
    let odd : 2 * suc wave - 1 ≡ slot.0 = omega (arith, level) in
    ap (floor_of node) is.is_top ∙ ap (λ (r : ℕ). r - node.charter.depth) odd

grown_committed : (node : Node) (state : State) (event : Event) (sequence : SequencerView) (later new : DagView) (made : LengtheningView)
    → ComesTo node state event sequence → Extends state.slots (grown node state event.message).slots
    → IsStepped node state event sequence.graph later → FitsTo later made → option_map slot_of (last_leader (ledger_in node (grown node state event.message))) ≡ Some made.last
    → option_map_or (λ (s : ℕ × Author). s.0) sequence.last 0 < made.last.0 → (is : IsCommitted later new made)
    → IsGrownTo node state event is.marked × (floor_in node (grown node state event.message) ≡ made.last.0 - later.charter.depth)
grown_committed node state event sequence later new made comes ext stepped of last newer is =
    let at = comes.at in
    let reached = grown node state event.message in
    let now = ledger_in node reached in
    let end = last_of node reached made.last comes.comes.node_is ext.placed_after last in
    let charter : is.marked.charter ≡ node.charter = is.charter ∙ stepped.charter ∙ at.charter in
    let slots : slots_in is.marked ≡ reached.slots = fun_ext (λ round. fun_ext (λ author. is.slots round author)) ∙ stepped.slots in
    let depth : later.charter.depth ≡ node.charter.depth = ap (λ (x : Charter). x.depth) (stepped.charter ∙ at.charter) in
    let floor = floor_is node reached made.last end.0 end.1 end.2 in
    let held : leader_held is.marked (Some made.last) ≡ last_leader now = ap (λ (s : Slots). s made.last.0 made.last.1.0) slots ∙ end.2.held ∙ sym end.2.is_last in (
      record {
        charter = charter;
        slots = slots;
        floor = is.floor ∙ stepped.floor ∙ at.floor;
        base = is.base ∙ ap (λ (b : ℕ). max b made.last.0) (stepped.base ∙ at.base) ∙ higher sequence.last made.last.0 newer ∙ sym (ap (λ o. option_map_or (λ (slot : ℕ × Author). slot.0) o 1) last);
        marked = λ round author c above there.
            is.marks of round author c (omega (arith, above, floor, depth)) there
            ∙ ap (λ o. is_past (chain.ledger_in is.marked []) o c) held
            ∙ ap (λ (x : Charter). is_past (let l : Ledger = record { charter = x; slots = slots_in is.marked; coins = [] } in l) (last_leader now) c) charter
            ∙ ap (λ (s : Slots). is_past (let l : Ledger = record { charter = node.charter; slots = s; coins = [] } in l) (last_leader now) c) slots;
      },
      floor ∙ ap (λ (d : ℕ). made.last.0 - d) (sym depth),
    )
  where
    higher : (before : Option (ℕ × Author)) (round : ℕ) → option_map_or (λ (s : ℕ × Author). s.0) before 0 < round → max (option_map_or (λ (s : ℕ × Author). s.0) before 1) round ≡ round
    higher None round less = omega (arith, less)
    higher (Some slot) round less = omega (arith, less)

-- ---- either

pub goes_on : AreKnown → (node : Node) (state : State) (event : Event) (sequence : SequencerView) (later : DagView) (prepared : Prepared) (new : SequencerView) → ComesTo node state event sequence
    → Extends state.slots (grown node state event.message).slots → IsPrepared node state event sequence prepared → IsStepped node state event sequence.graph later
    → ((made : LengtheningView) → prepared.committed ≡ Some made → FitsTo later made) → CommitsTo later sequence.last prepared.committed new.graph new.last
    → new.coins ≡ (grown node state event.message).coins → new.order ≡ sequence.order ++ prepared_digests prepared → IsAt node (after node state event) new
goes_on known node state event sequence later prepared new comes ext ready stepped of commits coins order =
    let reached = grown node state event.message in
    let back = is_after known node state event sequence comes ext in
    let ordered : new.order ≡ reached.order = order ∙ ap (λ l. l ++ prepared_digests prepared) comes.at.order ∙ ap (λ l. state.order ++ l) ready.digests in
    elim (given_or_none prepared.committed) [
      | inr none ↦
          let last : option_map slot_of (last_leader (ledger_in node reached)) ≡ sequence.last = ready.last
          ∙ ap (λ o. option_map_or (λ (made : LengtheningView). Some made.last) o sequence.last) none in
          let commits' : (new.graph ≡ later) × (new.last ≡ sequence.last) = subst (λ o. CommitsTo later sequence.last o new.graph new.last) none commits in
          let same = nothing_newer node state event sequence comes ext last in
          let leaders = same_last (ledger_in node state) reached.slots ext (option_to_list (as_coin event.message)) same in
          let is = grown_same node state event sequence later comes ext stepped leaders in
          let floor : floor_in node reached ≡ floor_in node state = ap (floor_of node) same.same in
          let dropped = stays_dropped later (floor_in node reached) stepped.sound (stepped.floor ∙ comes.at.floor ∙ sym floor) in
          stands node state event sequence new later comes back stepped.sound is
          (subst (λ (g : DagView). IsDropped later g (floor_in node reached)) (sym commits'.0) dropped) coins ordered (commits'.1 ∙ sym last)
      | inl found ↦
          let made = found.0 in
          let last : option_map slot_of (last_leader (ledger_in node reached)) ≡ Some made.last = ready.last ∙ ap (λ o. option_map_or (λ (m : LengtheningView). Some m.last) o sequence.last) found.1 in
          let commits' : IsCommitted later new.graph made × (new.last ≡ Some made.last) = subst (λ o. CommitsTo later sequence.last o new.graph new.last) found.1 commits in
          let is = grown_committed node state event sequence later new.graph made comes ext stepped (of made found.1) last (ready.newer made found.1) commits'.0 in
          stands node state event sequence new commits'.0.marked comes back commits'.0.sound is.0
          (subst (IsDropped commits'.0.marked new.graph) (sym is.1) commits'.0.dropped) coins ordered (commits'.1 ∙ sym last)
    ]

-- with a certificate
pub held_on : AreKnown → MadeStays → (node : Node) (state : State) (event : Event) (sequence : SequencerView) (certificate : Certificate)
    (later : DagView) (prepared : Prepared) (new : SequencerView) → ComesTo node state event sequence
    → certificate_of node state event.message ≡ Some certificate → IsPrepared node state event sequence prepared → IsGraph sequence.graph → certificate.header.author.0 < size_in sequence.graph
    → IsGraph later → IsWith sequence.graph later certificate → CommitsTo later sequence.last prepared.committed new.graph new.last → new.coins
    ≡ sequence.coins → new.order ≡ sequence.order ++ prepared_digests prepared
    → IsAt node (after node state event) new
held_on known stays node state event sequence certificate later prepared new comes adds ready graph member sound more commits coins order =
    let ext = certificate_extends node state event sequence certificate later comes adds graph more in
    let stepped : IsStepped node state event sequence.graph later =
    record { sound = sound; charter = more.charter; floor = more.floor; base = more.base; slots = later_slots node state event sequence certificate later comes.at adds more; marked = more.marked } in
    goes_on known node state event sequence later prepared new comes ext ready stepped
    (λ made is. stays sequence.graph later certificate made
    (record { graph = graph; member = member; new = new_in node state event sequence certificate comes adds; with = more })
    (above made is ext) (ready.made made is))
    commits
    (coins ∙ comes.at.coins ∙ sym (append-nil state.coins) ∙ sym (ap (λ l. state.coins ++ l) (no_coin node state event.message certificate adds))) order
  where
    above : (made : LengtheningView) → prepared.committed ≡ Some made → Extends state.slots (grown node state event.message).slots → made.last.0 < certificate.header.round
    above made is ext =
        let before = ledger_in node state in
        let now = ledger_in node (grown node state event.message) in
        let last : option_map slot_of (last_leader now) ≡ Some made.last = ready.last ∙ ap (λ o. option_map_or (λ (m : LengtheningView). Some m.last) o sequence.last) is in
        let newer = ready.newer made is in
        elim (steps before (grown node state event.message).slots ext (option_to_list (as_coin event.message))) [
          | inl same ↦
              let was = sym last ∙ ap (option_map slot_of) (same_last before (grown node state event.message).slots ext (option_to_list (as_coin event.message)) same) ∙ sym comes.at.last in
              let round : made.last.0 ≡ option_map_or (λ (s : ℕ × Author). s.0) sequence.last 0 = ap (λ o. option_map_or (λ (s : ℕ × Author). s.0) o 0) was in
              absurd (omega (arith, round, newer))
          | inr higher ↦
              let place = leader_place now higher.0 higher.1 (members_some node comes.comes.node_is) ext.placed_after higher.2.leads in
              let same : slot_of higher.1 ≡ made.last = same_Some (slot_of higher.1) made.last (sym (ap (option_map slot_of) (higher_last before now higher.0 higher.1 higher.2)) ∙ last) in
              let round : higher.1.header.round ≡ made.last.0 = ap (λ (s : ℕ × Author). s.0) same in
              let level = above_last node state event sequence certificate later comes adds graph more higher.0 higher.1 higher.2 in
              omega (arith, place.0, round, level)
        ]

-- with a coin
pub pushed_on : AreKnown → (node : Node) (state : State) (event : Event) (sequence : SequencerView) (value : ℕ) (prepared : Prepared)
    (new : SequencerView) → ComesTo node state event sequence → as_coin event.message ≡ Some value
    → IsPrepared node state event sequence prepared → IsGraph sequence.graph → CommitsTo sequence.graph sequence.last prepared.committed new.graph new.last → new.coins ≡ sequence.coins ++ value ∷ []
    → new.order ≡ sequence.order ++ prepared_digests prepared → IsAt node (after node state event) new
pushed_on known node state event sequence value prepared new comes adds ready graph commits coins order =
    let ext = coin_extends node state event value adds comes.comes.sound in
    let stepped : IsStepped node state event sequence.graph sequence.graph =
    record { sound = graph; charter = refl; floor = refl; base = refl; slots = comes.at.slots ∙ sym (coin_slots node state event value adds); marked = λ round author. refl } in
    goes_on known node state event sequence sequence.graph prepared new comes ext ready stepped ready.made commits
    (coins ∙ ap (λ l. l ++ value ∷ []) comes.at.coins ∙ sym (ap (λ o. state.coins ++ option_to_list o) adds)) order
