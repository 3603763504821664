-- A DAG that is filled with a sound state's certificates, and marked by the last leader alone, is at the state.
use Rattle.std.proofs.Common.{◌≡◌, ℕ, zero, suc, ◌+◌, ◌-◌, ◌*◌, ◌<◌, ◌≤◌, max, true, false, List, [], ◌∷◌, map, length, take, drop, get_or, Option, Some, None, inl, inr, refl, ap, sym, ◌∙◌, subst, arith}
use Rattle.std.proofs.Math.Path.{fun_ext}
use Rattle.std.specs.Prelude.{◌==◌, is_some, IfSome, option_map, if◌then◌else◌}
use Rattle.std.specs.Option.{option_map_or, option_or}
use Rattle.std.proofs.lemmas.Bool.{cases_Bool, cases_lt, eqb-true}
use Rattle.std.proofs.lemmas.Grind.{common_steps}
use Rattle.std.proofs.lemmas.List.{length-take-le, take-append-drop, get_or_default}
use Rattle.std.proofs.lemmas.Option.{same_Some, none-some}
use Rattle.committee.specs.Charter.{Charter, numbers}
use Rattle.spec_laws.proofs.Closed.{floor_of}
use Rattle.spec_laws.proofs.Lists.{given_or_none}
use Rattle.spec_laws.proofs.OrderGrows.{sound_certificate}
use Rattle.spec_laws.proofs.Votes.{of_its_slot}
use Rattle.spec_machine.specs.Laws.{FreshIsSound}
use Rattle.spec_machine.specs.Machine.{last_leader, fresh}
use Rattle.spec_machine.specs.Sound.{IsReceived}
use Rattle.spec_model.specs.Holdings.{genesis, all_held}
use Rattle.spec_model.specs.Nodes.{Node, size_of}
use Rattle.spec_model.specs.Ordering.{Ledger, top, is_past}
use Rattle.spec_model.specs.Slots.{Slots, is_of_slot, slots_of}
use Rattle.spec_model.specs.States.{State, ledger_in, floor_in}
use Rattle.spec_model.specs.Words.{Author, Certificate}
use Rattle.wire.specs.declared.round.TheConstants.Round.{MAX}
use Rattle.dag.specs.Graph.{DagView, size_in, slots_in}
use Rattle.tusk.specs.Chain.{slot_of}
use Rattle.tusk.specs.Chain as chain
use Rattle.flatten.specs.Segments.{leader_held}
use Rattle.sequencer.specs.Restored.{Digested, listed, AreListed, Parts, ArePartsOf, IsEmpty, with_listed, CanEnter, HaveEntered, IsMarkedBy, IsMarkedTo}
use Rattle.sequencer.specs.Sequence.{SequencerView, IsAt}
use Rattle.sequencer.proofs.Committing.{stays_dropped}
use Rattle.sequencer.proofs.Entering.{IsTurn, none_listed, listed_append, done_apart}
use Rattle.sequencer.proofs.Naming.{some_named}
use Rattle.sequencer.proofs.Preparing.{last_at, last_none}

-- ---- the certificates that are listed

drop_here : {X : Type 0} (xs : List X) (count : ℕ) (x : X) → count < length xs → x ≡ get_or xs count x → drop count xs ≡ x ∷ drop (count + 1) xs
drop_here [] count x within is = absurd (omega (arith, within))
drop_here (y ∷ xs) zero x within is = ap (λ z. z ∷ xs) (sym is)
drop_here (y ∷ xs) (suc count) x within is = let next : suc count + 1 ≡ suc (count + 1) = omega arith in rw next (drop_here xs count x (omega (arith, within)) is)

pub turn_at : (held : List Digested) (i : ℕ) (d : Digested) → i < length held → IsTurn held (take i held) (get_or held i d)
turn_at held i d within =
    let long : length (take i held) ≡ i = length-take-le i held (omega (arith, within)) in
    record {
      front = ap (λ (n : ℕ). take n held) (sym long);
      within = omega (arith, long, within);
      is = get_or_default held i d (get_or held i d) within ∙ ap (λ (n : ℕ). get_or held n (get_or held i d)) (sym long);
    }

-- each is found in its slot
pub found_listed : (held done : List Digested) (next : Digested) → AreListed held → IsTurn held done next → listed held next.0.header.round next.0.header.author.0 ≡ Some next.0
found_listed held done next are turn =
    let round = next.0.header.round in
    let author = next.0.header.author.0 in
    let rest = drop (length done + 1) held in
    let here : listed (next ∷ rest) round author ≡ Some next.0 = let own = of_its_slot next.0.header in rw own refl in
    ap (λ (l : List Digested). listed l round author) (sym (take-append-drop (length done) held))
    ∙ listed_append (take (length done) held) (drop (length done) held) round author
    ∙ ap (λ (l : List Digested). option_or (listed l round author) (listed (drop (length done) held) round author)) (sym turn.front)
    ∙ ap (λ o. option_or o (listed (drop (length done) held) round author)) (done_apart held done next are turn)
    ∙ ap (λ (l : List Digested). listed l round author) (drop_here held (length done) next turn.within turn.is)
    ∙ here

-- ---- an empty DAG

no_genesis : (members : List ℕ) (round author : ℕ) → 0 < round → slots_of (map genesis members) round author ≡ None
no_genesis [] round author positive = refl
no_genesis (member ∷ members) round author positive =
    let apart : is_of_slot round author (genesis member).header ≡ false = not_here member round author positive in
    rw apart (no_genesis members round author positive)
  where
    not_here : (member round author : ℕ) → 0 < round → is_of_slot round author (genesis member).header ≡ false
    not_here member round author positive = grind (arith, positive, common_steps)

-- with the certificates that are listed it has the slots of the state
filled : FreshIsSound → (node : Node) (state : State) (parts : Parts) (graph : DagView) → ArePartsOf node state parts → IsEmpty parts.charter parts.floor graph → (round author : ℕ)
    → with_listed graph parts.held round author ≡ state.slots round author
filled fresh_is_sound node state parts graph are empty round author =
    elim (cases_lt 0 round) [
      | inl positive ↦
          ap (λ o. option_or o (listed parts.held round author)) (empty.slots round author ∙ nothing positive) ∙ sym (are.held round author positive)
      | inr first ↦
          let zeroth : round ≡ 0 = omega (arith, first) in
          let none : listed parts.held 0 author ≡ None = none_listed parts.held 0 author (λ i d within. let positive = are.listed.positive i d within in above (get_or parts.held i d) positive) in
          ap (λ (r : ℕ). with_listed graph parts.held r author) zeroth
          ∙ ap (option_or (slots_in graph 0 author)) none
          ∙ or_none (slots_in graph 0 author) ∙ empty.slots 0 author ∙ at_first ∙ ap (λ (r : ℕ). state.slots r author) (sym zeroth)
    ]
  where
    or_none : {X : Type 0} (o : Option X) → option_or o None ≡ o
    or_none (Some x) = refl
    or_none None = refl

    above : (one : Digested) → 0 < one.0.header.round → is_of_slot 0 author one.0.header ≡ false
    above one positive = grind (arith, positive, common_steps)

    nothing : 0 < round → (if parts.floor == 0 then slots_of (map genesis (numbers (length parts.charter.keys))) round author else None) ≡ None
    nothing positive =
        elim (cases_Bool (parts.floor == 0)) [
          | inl lowest ↦ rw lowest (no_genesis (numbers (length parts.charter.keys)) round author positive)
          | inr higher ↦ rw higher refl
        ]

    at_first : (if parts.floor == 0 then slots_of (map genesis (numbers (length parts.charter.keys))) 0 author else None) ≡ state.slots 0 author
    at_first =
        let same = are.floor in
        elim (cases_Bool (parts.floor == 0)) [
          | inr higher ↦
              let positive : 0 < floor_in node state = not_lowest parts.floor (floor_in node state) same higher in
              rw higher (elim (given_or_none (state.slots 0 author)) [
                | inr none ↦ sym none
                | inl found ↦ let least = are.sound.certificates.above 0 author found.0 found.1 in absurd (omega (arith, least, positive))
              ])
          | inl lowest ↦
              let zeroth : floor_in node state ≡ 0 = sym same ∙ eqb-true parts.floor 0 lowest in
              let start = (fresh_is_sound node are.node_is).certificates in
              let members : slots_of (map genesis (numbers (length parts.charter.keys))) 0 author ≡ (fresh node).slots 0 author
              = ap (λ (x : Charter). slots_of (map genesis (numbers (length x.keys))) 0 author) are.charter in
              rw lowest (members ∙ elim (cases_lt author (size_of node)) [
                | inl member ↦ start.genesis refl author member ∙ sym (are.sound.certificates.genesis zeroth author member)
                | inr stranger ↦ nobody (fresh node).slots (start.of_members 0 author) stranger ∙ sym (nobody state.slots (are.sound.certificates.of_members 0 author) stranger)
              ])
        ]
      where
        not_lowest : (one other : ℕ) → one ≡ other → (one == 0) ≡ false → 0 < other
        not_lowest one other same apart = grind (arith, same, apart)

        nobody : (slots : Slots) → ((c : Certificate) → slots 0 author ≡ Some c → author < size_of node) → size_of node ≤ author → slots 0 author ≡ None
        nobody slots inside outside =
            elim (given_or_none (slots 0 author)) [
              | inr none ↦ none
              | inl found ↦ let member = inside found.0 found.1 in absurd (omega (arith, member, outside))
            ]

-- ---- what may enter

-- a certificate that is listed is held by the state
record IsHeldAbove (node : Node) (state : State) (one : Digested) : Type 0 where
  received : IsReceived node state one.0
  held : state.slots one.0.header.round one.0.header.author.0 ≡ Some one.0

held_above : (node : Node) (state : State) (parts : Parts) → ArePartsOf node state parts → (i : ℕ) (d : Digested) → i < length parts.held → IsHeldAbove node state (get_or parts.held i d)
held_above node state parts are i d within =
    let one = get_or parts.held i d in
    let positive : 0 < one.0.header.round = are.listed.positive i d within in
    let held : state.slots one.0.header.round one.0.header.author.0 ≡ Some one.0 = are.held one.0.header.round one.0.header.author.0 positive
    ∙ found_listed parts.held (take i parts.held) one are.listed (turn_at parts.held i d within) in
    record {
      received = elim (are.sound.certificates.passed one.0.header.round one.0.header.author.0 one.0 held) [
        | inl first ↦ let least : one.0.header.round ≡ 0 = ap (λ (c : Certificate). c.header.round) first in absurd (omega (arith, least, positive))
        | inr received ↦ received
      ];
      held = held;
    }

pub can_enter : FreshIsSound → (node : Node) (state : State) (parts : Parts) (graph : DagView) → ArePartsOf node state parts → IsEmpty parts.charter parts.floor graph → CanEnter graph parts.held
can_enter fresh_is_sound node state parts graph are empty =
    let floor : graph.floor ≡ floor_in node state = empty.floor ∙ are.floor in
    let members : size_in graph ≡ size_of node = ap (λ (x : Charter). length x.keys) (empty.charter ∙ are.charter) in
    let end = empty.end in
    let low = are.floor in
    let slots : with_listed graph parts.held ≡ state.slots = fun_ext (λ round. fun_ext (λ author. filled fresh_is_sound node state parts graph are empty round author)) in
    record {
      listed = are.listed;
      members = λ i d within.
          let one = held_above node state parts are i d within in
          let member = (sound_certificate node node.own (get_or parts.held i d).0 one.received.passed).member in
          omega (arith, member, members);
      named = λ i d within.
          let one = held_above node state parts are i d within in
          some_named node (get_or parts.held i d).0.header.parents (sound_certificate node node.own (get_or parts.held i d).0 one.received.passed).quorum;
      above = λ i d within.
          let c = (get_or parts.held i d).0 in
          let least = are.sound.certificates.above c.header.round c.header.author.0 c (held_above node state parts are i d within).held in
          omega (arith, least, floor);
      later = λ i d within.
          let c = (get_or parts.held i d).0 in
          let positive = are.listed.positive i d within in
          let least = are.sound.certificates.above c.header.round c.header.author.0 c (held_above node state parts are i d within).held in
          omega (arith, least, positive, end, low);
      parents = λ i d within.
          let c = (get_or parts.held i d).0 in
          ap (λ (s : Slots). all_held s graph.floor c.header) slots ∙ ap (λ (f : ℕ). all_held state.slots f c.header) floor
          ∙ (held_above node state parts are i d within).received.held;
    }

-- ---- the last leader

-- it is held, of no round after the greatest, and the floor is the depth below it
pub record IsLastOf (node : Node) (state : State) (slot : ℕ × Author) : Type 0 where
  pub certificate : Certificate
  pub is_last : last_leader (ledger_in node state) ≡ Some certificate
  pub held : state.slots slot.0 slot.1.0 ≡ Some certificate
  pub limit : slot.0 ≤ MAX
  pub floor : floor_in node state ≡ slot.0 - node.charter.depth
  pub lower : floor_in node state < slot.0

last_of : (node : Node) (state : State) (parts : Parts) → ArePartsOf node state parts → (slot : ℕ × Author) → parts.last ≡ Some slot → IsLastOf node state slot
last_of node state parts are slot last =
    let ledger = ledger_in node state in
    elim (given_or_none (top ledger)) [
      | inr none ↦ absurd (none-some slot (sym (are.last ∙ ap (option_map slot_of) (last_none ledger none)) ∙ last))
      | inl found ↦
          let at = last_at node state are.node_is are.sound found.0 found.1 in
          let c = at.1 in
          let is = at.2 in
          let same : slot_of c ≡ slot = same_Some (slot_of c) slot (sym (are.last ∙ ap (option_map slot_of) is.is_last) ∙ last) in
          let round : slot.0 ≡ c.header.round = ap (λ (s : ℕ × Author). s.0) (sym same) in
          let level = is.level in
          let floor : floor_in node state ≡ (2 * suc at.0 - 1) - node.charter.depth = ap (floor_of node) is.is_top in
          let deep = are.node_is.charter.depth in
          record {
            certificate = c;
            is_last = is.is_last;
            held = ap (λ (s : ℕ × Author). state.slots s.0 s.1.0) (sym same) ∙ is.held;
            limit = elim (are.sound.certificates.passed c.header.round c.header.author.0 c is.held) [
              | inl first ↦ let least : c.header.round ≡ 0 = ap (λ (d : Certificate). d.header.round) first in absurd (omega (arith, least, level))
              | inr received ↦ let most = received.passed.message.header.round in omega (arith, most, round)
            ];
            floor = let odd : 2 * suc at.0 - 1 ≡ slot.0 = omega (arith, level, round) in floor ∙ ap (λ (r : ℕ). r - node.charter.depth) odd;
            lower = omega (arith, floor, level, round, deep);
          }
    ]

-- where there is none, the floor is 0
lowest : (node : Node) (state : State) (parts : Parts) → ArePartsOf node state parts → parts.last ≡ None → floor_in node state ≡ 0
lowest node state parts are last =
    let ledger = ledger_in node state in
    elim (given_or_none (top ledger)) [
      | inr none ↦ ap (floor_of node) none
      | inl found ↦
          let at = last_at node state are.node_is are.sound found.0 found.1 in
          absurd (none-some (slot_of at.1) (sym last ∙ are.last ∙ ap (option_map slot_of) at.2.is_last))
    ]

pub floor_limit : (node : Node) (state : State) (parts : Parts) → ArePartsOf node state parts → parts.floor < MAX
floor_limit node state parts are =
    let same = are.floor in
    elim (given_or_none parts.last) [
      | inr none ↦ let least = lowest node state parts are none in omega (arith, same, least)
      | inl found ↦
          let is = last_of node state parts are found.0 found.1 in
          let limit = is.limit in
          let lower = is.lower in
          omega (arith, same, limit, lower)
    ]

slots_are : FreshIsSound → (node : Node) (state : State) (parts : Parts) (empty dag : DagView) → ArePartsOf node state parts → IsEmpty parts.charter parts.floor empty
    → HaveEntered empty dag parts.held
    → slots_in dag ≡ state.slots
slots_are fresh_is_sound node state parts empty dag are is entered =
    fun_ext (λ round. fun_ext (λ author. entered.slots round author ∙ filled fresh_is_sound node state parts empty are is round author))

pub leader_is_held : FreshIsSound → (node : Node) (state : State) (parts : Parts) (empty dag : DagView) → ArePartsOf node state parts
    → IsEmpty parts.charter parts.floor empty → HaveEntered empty dag parts.held
    → IfSome parts.last (λ (slot : ℕ × Author). is_some (slots_in dag slot.0 slot.1.0) ≡ true)
leader_is_held fresh_is_sound node state parts empty dag are is entered = on parts.last refl
  where
    on : (last : Option (ℕ × Author)) → parts.last ≡ last → IfSome last (λ (slot : ℕ × Author). is_some (slots_in dag slot.0 slot.1.0) ≡ true)
    on None same = tt
    on (Some slot) same =
        ap is_some (ap (λ (s : Slots). s slot.0 slot.1.0) (slots_are fresh_is_sound node state parts empty dag are is entered) ∙ (last_of node state parts are slot same).held)

-- ---- the whole

-- what was brought into an empty DAG, and marked
pub record IsRestoredFrom (parts : Parts) (empty : DagView) (before after : SequencerView) : Type 0 where
  pub empty_is : IsEmpty parts.charter parts.floor empty
  pub entered : HaveEntered empty before.graph parts.held
  pub none : before.last ≡ None
  pub coins : before.coins ≡ parts.coins
  pub order : before.order ≡ parts.order
  pub marked : IsMarkedTo before after parts.last

unmarked : (node : Node) (state : State) (parts : Parts) (empty : DagView) (before after : SequencerView) → FreshIsSound → ArePartsOf node state parts → IsRestoredFrom parts empty before after
    → parts.last ≡ None → IsAt node state before
unmarked node state parts empty before after fresh_is_sound are is last =
    let none : last_leader (ledger_in node state) ≡ None = no_slot (last_leader (ledger_in node state)) (sym are.last ∙ last) in
    let low = lowest node state parts are last in
    let floor : parts.floor ≡ 0 = are.floor ∙ low in
    record {
      charter = is.entered.charter ∙ is.empty_is.charter ∙ are.charter;
      slots = slots_are fresh_is_sound node state parts empty before.graph are is.empty_is is.entered;
      coins = is.coins ∙ are.coins;
      order = is.order ∙ are.order;
      floor = is.entered.floor ∙ is.empty_is.floor ∙ are.floor;
      last = is.none ∙ sym last ∙ are.last;
      base = is.entered.base ∙ is.empty_is.base ∙ ap (λ (f : ℕ). f + 1) floor ∙ sym (ap (λ o. option_map_or (λ (slot : ℕ × Author). slot.0) o 1) is.none);
      marked = λ round author c held. is.entered.marked round author ∙ is.empty_is.marked round author ∙ sym (ap (λ o. is_past (ledger_in node state) o c) none);
    }
  where
    no_slot : (o : Option Certificate) → option_map slot_of o ≡ None → o ≡ None
    no_slot None same = refl
    no_slot (Some c) same = absurd cc

by_leader : (node : Node) (state : State) (parts : Parts) (empty : DagView) (before after : SequencerView) (slot : ℕ × Author) → FreshIsSound → ArePartsOf node state parts
    → IsRestoredFrom parts empty before after → parts.last ≡ Some slot → IsMarkedBy before after slot → IsAt node state after
by_leader node state parts empty before after slot fresh_is_sound are is last marked =
    let graph = before.graph in
    let committed = marked.graph in
    let made = marked.made in
    let end = last_of node state parts are slot last in
    let charter : graph.charter ≡ node.charter = is.entered.charter ∙ is.empty_is.charter ∙ are.charter in
    let slots : slots_in graph ≡ state.slots = slots_are fresh_is_sound node state parts empty graph are is.empty_is is.entered in
    let floor : graph.floor ≡ floor_in node state = is.entered.floor ∙ is.empty_is.floor ∙ are.floor in
    let depth : graph.charter.depth ≡ node.charter.depth = ap (λ (x : Charter). x.depth) charter in
    let round : made.last.0 ≡ slot.0 = ap (λ (s : ℕ × Author). s.0) marked.of in
    let low : made.last.0 - graph.charter.depth ≡ floor_in node state = ap (λ (r : ℕ). r - graph.charter.depth) round ∙ ap (λ (d : ℕ). slot.0 - d) depth ∙ sym end.floor in
    let dropped = committed.dropped in
    let still = stays_dropped committed.marked (made.last.0 - graph.charter.depth) committed.sound (committed.floor ∙ floor ∙ sym low) in
    let there : slots_in committed.marked ≡ state.slots = fun_ext (λ r. fun_ext (λ a. committed.slots r a)) ∙ slots in
    let before_base : graph.base ≡ parts.floor + 1 = is.entered.base ∙ is.empty_is.base in
    let lower = end.lower in
    let parts_floor = are.floor in
    let marked_base = committed.base in
    let held : leader_held committed.marked (Some made.last) ≡ last_leader (ledger_in node state) =
    ap (λ (s : ℕ × Author). slots_in committed.marked s.0 s.1.0) marked.of ∙ ap (λ (s : Slots). s slot.0 slot.1.0) there ∙ end.held ∙ sym end.is_last in
    let same_charter : committed.marked.charter ≡ node.charter = committed.charter ∙ charter in
    record {
      charter = dropped.charter ∙ same_charter;
      slots = fun_ext (λ r. fun_ext (λ a. dropped.slots r a ∙ sym (still.slots r a))) ∙ there;
      coins = marked.coins ∙ is.coins ∙ are.coins;
      order = marked.order ∙ is.order ∙ are.order;
      floor = dropped.floor ∙ sym still.floor ∙ committed.floor ∙ floor;
      last = marked.last ∙ sym last ∙ are.last;
      base = dropped.base ∙ marked_base ∙ highest graph.base made.last.0 slot.0 (omega (arith, before_base, lower, parts_floor)) round
          ∙ sym (ap (λ o. option_map_or (λ (s : ℕ × Author). s.0) o 1) marked.last);
      marked = λ r a c here.
          let was : slots_in committed.marked r a ≡ Some c = still.slots r a ∙ sym (dropped.slots r a) ∙ here in
          let least = committed.sound.above r a c was in
          let under = committed.floor in
          dropped.marked r a ∙ sym (still.marked r a)
          ∙ committed.marks marked.fits r a c (omega (arith, least, under, floor, low)) was
          ∙ ap (λ o. is_past (chain.ledger_in committed.marked []) o c) held
          ∙ ap (λ (x : Charter). is_past (let l : Ledger = record { charter = x; slots = slots_in committed.marked; coins = [] } in l) (last_leader (ledger_in node state)) c) same_charter
          ∙ ap (λ (s : Slots). is_past (let l : Ledger = record { charter = node.charter; slots = s; coins = [] } in l) (last_leader (ledger_in node state)) c) there;
    }
  where
    highest : (base round slot : ℕ) → base ≤ slot → round ≡ slot → max base round ≡ slot
    highest base round slot less same = omega (arith, less, same)

pub restored : FreshIsSound → (node : Node) (state : State) (parts : Parts) (empty : DagView) (before after : SequencerView) → ArePartsOf node state parts
    → IsRestoredFrom parts empty before after → IsAt node state after
restored fresh_is_sound node state parts empty before after are is = on parts.last refl is.marked
  where
    on : (last : Option (ℕ × Author)) → parts.last ≡ last → IsMarkedTo before after last → IsAt node state after
    on None same stays = subst (IsAt node state) (sym stays) (unmarked node state parts empty before after fresh_is_sound are is same)
    on (Some slot) same marked = by_leader node state parts empty before after slot fresh_is_sound are is same marked
