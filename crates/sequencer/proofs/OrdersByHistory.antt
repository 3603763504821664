-- What the newer leaders order over what a DAG holds of a legal history.
use Rattle.std.proofs.Common.{◌≡◌, ℕ, zero, suc, ◌+◌, ◌-◌, ◌*◌, ◌≤◌, true, List, [], ◌∷◌, ◌++◌, length, map, Option, Some, None, inl, inr, refl, ap, sym, ◌∙◌, subst, arith}
use Rattle.std.specs.Prelude.{nat_le, option_and_then, option_map, Contains, IfSome, ◌&&◌}
use Rattle.std.specs.List.{list_any}
use Rattle.std.specs.Option.{option_map_or}
use Rattle.std.proofs.lemmas.Bool.{cases_Bool}
use Rattle.std.proofs.lemmas.List.{map-append}
use Rattle.std.proofs.lemmas.Option.{same_Some, none-some}
use Rattle.committee.specs.Charter.{Charter, numbers}
use Rattle.spec_laws.proofs.Closed.{in_place}
use Rattle.spec_laws.proofs.FromRounds.{AgreeFrom, newer_high, round_from}
use Rattle.spec_laws.proofs.Growing.{AreInPlace, IsIn, WasHeld, any_same, leader_in}
use Rattle.spec_laws.proofs.Lengthening.{is_later, last_is}
use Rattle.spec_laws.proofs.Lists.{given_or_none, Contains-first, Contains-later}
use Rattle.spec_laws.proofs.OrderGrows.{members_some}
use Rattle.spec_laws.proofs.OrderLonger.{committed_is, leader_place, newer_ends, top_leader}
use Rattle.spec_laws.proofs.Votes.{slot_is}
use Rattle.spec_laws.specs.Laws.{last_or, committed_at}
use Rattle.spec_model.specs.Histories.{History, coins}
use Rattle.spec_model.specs.Holdings.{floor, slots, ledger_of, ledger_at}
use Rattle.spec_model.specs.Nodes.{Node}
use Rattle.spec_model.specs.Ordering.{Ledger, reaches_in, is_past, leader, top, newer_to, newer_at, newer, committed, last_wave, segment}
use Rattle.spec_model.specs.Slots.{Slots, has_path, is_parent, reaches}
use Rattle.spec_model.specs.Words.{Certificate}
use Rattle.dag.specs.Graph.{DagView, slots_in}
use Rattle.tusk.specs.Chain.{ledger_in, slot_of}
use Rattle.flatten.specs.Laws.{Follows, EachFollows}
use Rattle.flatten.specs.Segments.{AreLinked, IsMarkedPast, IsMarkedFor}
use Rattle.sequencer.proofs.ByHistory.{enough_of, floor_is, ledger_is}
use Rattle.sequencer.proofs.Chaining.{AreChained}
use Rattle.sequencer.proofs.Preparing.{held_last, linked}
use Rattle.sequencer.specs.ByHistory.{HoldsHistory, OrdersAs, OrdersByHistory, last_leader_at}

-- ---- the committed leaders of a ledger follow one on the other

pushed : (ledger : Ledger) (previous : Option Certificate) (front : List Certificate) (earlier last : Certificate) → AreChained ledger previous (front ++ earlier ∷ []) → IsIn ledger.slots last
    → reaches_in ledger last earlier ≡ true → AreChained ledger previous ((front ++ earlier ∷ []) ++ last ∷ [])
pushed ledger previous [] earlier last chained held reached = (chained.0, chained.1, (held, reached, tt))
pushed ledger previous (first ∷ front) earlier last chained held reached = (chained.0, chained.1, pushed ledger (Some first) front earlier last chained.2 held reached)

chained_to : (ledger : Ledger) → AreInPlace ledger.slots → (wave : ℕ) (last : Certificate) → IsIn ledger.slots last → AreChained ledger None (newer_to ledger 0 wave last)
chained_to ledger placed zero last held = (held, refl, tt)
chained_to ledger placed (suc wave) last held =
    let alone : AreChained ledger None (last ∷ []) = (held, refl, tt) in
    let lower = chained_to ledger placed wave last held in
    elim (cases_Bool (nat_le (suc wave) 0)) [
      | inl done ↦ let is : newer_to ledger 0 (suc wave) last ≡ last ∷ [] = rw done refl in subst (AreChained ledger None) (sym is) alone
      | inr young ↦ elim (given_or_none (leader ledger (suc wave))) [
        | inr none ↦ let is : newer_to ledger 0 (suc wave) last ≡ newer_to ledger 0 wave last = rw (young, none) refl in subst (AreChained ledger None) (sym is) lower
        | inl earlier ↦ elim (cases_Bool (reaches_in ledger last earlier.0)) [
          | inr missed ↦ let is : newer_to ledger 0 (suc wave) last ≡ newer_to ledger 0 wave last = rw (young, earlier.1, missed) refl in subst (AreChained ledger None) (sym is) lower
          | inl reached ↦
              let is : newer_to ledger 0 (suc wave) last ≡ newer_to ledger 0 wave earlier.0 ++ last ∷ [] = rw (young, earlier.1, reached) refl in
              let under = chained_to ledger placed wave earlier.0 (leader_in ledger (suc wave) earlier.0 placed earlier.1) in
              let ends = newer_ends ledger 0 wave earlier.0 in
              subst (AreChained ledger None) (sym (is ∙ ap (λ l. l ++ last ∷ []) ends.1))
              (pushed ledger None ends.0 earlier.0 last (subst (AreChained ledger None) ends.1 under) held reached)
        ]
      ]
    ]

all_chained : (ledger : Ledger) → AreInPlace ledger.slots → AreChained ledger None (committed ledger)
all_chained ledger placed =
    elim (given_or_none (top ledger)) [
      | inr none ↦
          let is : committed ledger ≡ [] = ap (λ o. option_map_or (newer_at ledger 0) o []) none in
          subst (AreChained ledger None) (sym is) tt
      | inl found ↦
          let lead = top_leader ledger found.0 found.1 in
          let wave = found.0 - 1 in
          subst (AreChained ledger None) (sym (committed_is ledger wave lead.0 lead.1 lead.2))
          (chained_to ledger placed wave lead.0 (leader_in ledger (suc wave) lead.0 placed lead.2))
    ]

-- so do those after a beginning of them
chained_after : (ledger : Ledger) (previous : Option Certificate) (front back : List Certificate) → AreChained ledger previous (front ++ back) → AreChained ledger (last_or previous front) back
chained_after ledger previous [] back chained = chained
chained_after ledger previous (c ∷ front) back chained = chained_after ledger (Some c) front back chained.2

-- ---- over slots that hold the same from a round on

as_high : (low : ℕ) (slots : Slots) → AreInPlace slots → (round author : ℕ) (c : Certificate) → low ≤ round → slots round author ≡ Some c → low ≤ c.header.round
as_high low slots placed round author c above held = let place = slot_is round author c.header (placed round author c held) in omega (arith, above, place.0)

paths_from : (n low : ℕ) (one other : Slots) → AgreeFrom low one other → (steps : ℕ) (start end : Certificate) → low ≤ end.header.round
    → has_path n one steps start end ≡ has_path n other steps start end
paths_from n low one other agree zero start end above = refl
paths_from n low one other agree (suc steps) start end above =
    let round = end.header.round + 1 in
    any_same (one round) (one round) (λ child. has_path n other steps start child && is_parent end child) (λ child. has_path n one steps start child && is_parent end child) (numbers n)
    (λ a child held. (held, ap (λ b. b && is_parent end child) (paths_from n low one other agree steps start child (as_high low one agree.placed round a child (omega (arith, above)) held))))
    (λ a child none held. absurd (none-some child (sym none ∙ held)))
    ∙ ap (list_any (λ child. has_path n other steps start child && is_parent end child)) (round_from n low one other agree round (omega (arith, above)))

reaches_from : (n low : ℕ) (one other : Slots) → AgreeFrom low one other → (start end : Certificate) → low ≤ end.header.round → reaches n one start end ≡ reaches n other start end
reaches_from n low one other agree start end above =
    ap (λ b. nat_le end.header.round start.header.round && b) (paths_from n low one other agree (start.header.round - end.header.round) start end above)

chained_from : (node : Node) (values : List ℕ) (low : ℕ) (one other : Slots) → AgreeFrom low one other
    → (previous : Option Certificate) (chain : List Certificate) → IfSome previous (λ p. low ≤ p.header.round)
    → ((c : Certificate) → Contains chain c → low ≤ c.header.round)
    → AreChained (ledger_of node other values) previous chain → AreChained (ledger_of node one values) previous chain
chained_from node values low one other agree previous [] high all chained = tt
chained_from node values low one other agree previous (c ∷ chain) high all chained =
    let above = all c (Contains-first chain c) in (
      agree.same c.header.round c.header.author.0 above ∙ chained.0,
      link previous high ∙ chained.1,
      chained_from node values low one other agree (Some c) chain above (λ d inside. all d (Contains-later c chain d inside)) chained.2,
    )
  where
    link : (previous : Option Certificate) → IfSome previous (λ p. low ≤ p.header.round)
        → option_map_or (λ before. reaches_in (ledger_of node one values) c before) previous true ≡ option_map_or (λ before. reaches_in (ledger_of node other values) c before) previous true
    link None high = refl
    link (Some p) high = reaches_from (length node.charter.keys) low one other agree c p high

-- ---- the last leader from before

-- it lies at the floor or above, and the DAG holds it
record IsLast (node : Node) (before : History) (graph : DagView) (p : Certificate) : Type 0 where
  high : floor node before ≤ p.header.round
  low_wave : p.header.round ≤ 2 * last_wave (ledger_at node before)
  held : IsIn (slots_in graph) p

last_placed : (node : Node) (before more : History) (low : ℕ) (graph : DagView) (last : Option ℕ) → HoldsHistory node before more low graph last
    → (p : Certificate) → last_leader_at node before ≡ Some p → IsLast node before graph p
last_placed node before more low graph last holds p is =
    let ledger = ledger_at node before in
    let now = ledger_of node (slots_in graph) (coins (before ++ more)) in
    elim (given_or_none (top ledger)) [
      | inr none ↦ absurd (none-some p (sym (ap (option_and_then (leader ledger)) none) ∙ sym (last_is ledger) ∙ is))
      | inl found ↦
          let lead = top_leader ledger found.0 found.1 in
          let wave = found.0 - 1 in
          let base : last_wave ledger ≡ suc wave = ap (λ o. option_map_or (λ w. w) o 0) lead.1 in
          let same = (enough_of node before more low graph last holds).same.same_last in
          let leads : leader now (suc wave) ≡ Some p = ap (leader now) (sym base) ∙ same ∙ is in
          let place = leader_place now wave p (members_some node holds.legal.sound) holds.graph_is.placed leads in
          let level = floor_is node before (suc wave) lead.1 in
          record {
            high = omega (arith, place.0, level);
            low_wave = omega (arith, place.0, base);
            held = leader_in now (suc wave) p holds.graph_is.placed leads;
          }
    ]

-- ---- the chain

-- the newer leaders, by what the history holds
abbrev newer_of : Node → History → History → List Certificate
newer_of node before more = newer (ledger_at node (before ++ more)) (last_wave (ledger_at node before))

-- they lie above the last wave from before
newer_above : (node : Node) (before more : History) (low : ℕ) (graph : DagView) (last : Option ℕ) → HoldsHistory node before more low graph last
    → (c : Certificate) → Contains (newer_of node before more) c
    → 2 * last_wave (ledger_at node before) + 1 ≤ c.header.round
newer_above node before more low graph last holds c inside =
    newer_high (ledger_at node (before ++ more)) (members_some node holds.legal.sound) (in_place node (before ++ more)) (last_wave (ledger_at node before)) c inside

-- so does the round at the depth below a newer leader
deep_enough : (node : Node) (before more : History) (low : ℕ) (graph : DagView) (last : Option ℕ) → HoldsHistory node before more low graph last
    → (c : Certificate) → Contains (newer_of node before more) c
    → floor node before ≤ c.header.round - graph.charter.depth
deep_enough node before more low graph last holds c inside =
    let above = newer_above node before more low graph last holds c inside in
    let depth : graph.charter.depth ≡ node.charter.depth = ap (λ (x : Charter). x.depth) holds.charter in
    elim (given_or_none (top (ledger_at node before))) [
      | inr none ↦
          let zero_floor : floor node before ≡ 0 = ap (λ o. option_map_or (λ w. (2 * w - 1) - node.charter.depth) o 0) none in
          omega (arith, zero_floor)
      | inl found ↦
          let level = floor_is node before found.0 found.1 in
          let base : last_wave (ledger_at node before) ≡ found.0 = ap (λ o. option_map_or (λ w. w) o 0) found.1 in
          omega (arith, level, base, above, depth)
    ]

floor_under : (node : Node) (before : History) → floor node before ≤ 2 * last_wave (ledger_at node before)
floor_under node before =
    elim (given_or_none (top (ledger_at node before))) [
      | inr none ↦
          let zero_floor : floor node before ≡ 0 = ap (λ o. option_map_or (λ w. (2 * w - 1) - node.charter.depth) o 0) none in
          omega (arith, zero_floor)
      | inl found ↦
          let level = floor_is node before found.0 found.1 in
          let base : last_wave (ledger_at node before) ≡ found.0 = ap (λ o. option_map_or (λ w. w) o 0) found.1 in
          omega (arith, level, base)
    ]

chained : (node : Node) (before more : History) (low : ℕ) (graph : DagView) (last : Option ℕ) → HoldsHistory node before more low graph last
    → AreChained (ledger_in graph (coins (before ++ more))) (last_leader_at node before) (newer_of node before more)
chained node before more low graph last holds =
    let later = before ++ more in
    let all = ledger_at node later in
    let whole : AreChained all None (committed_at node before ++ newer_of node before more) =
    subst (AreChained all None) (is_later node before more holds.legal).lengthens.chain (all_chained all (in_place node later)) in
    let agree : AgreeFrom low (slots_in graph) (slots node later) = record { placed = holds.held.placed; placed_other = in_place node later; same = holds.held.same } in
    let within = holds.low_enough in
    let under = floor_under node before in
    subst (λ (l : Ledger). AreChained l (last_leader_at node before) (newer_of node before more)) (sym (ledger_is node graph (coins later) holds.charter))
    (chained_from node (coins later) low (slots_in graph) (slots node later) agree (last_leader_at node before) (newer_of node before more)
    (last_high (last_leader_at node before) refl)
    (λ c inside. let above = newer_above node before more low graph last holds c inside in omega (arith, above, within, under))
    (chained_after all None (committed_at node before) (newer_of node before more) whole))
  where
    last_high : (previous : Option Certificate) → last_leader_at node before ≡ previous → IfSome previous (λ p. low ≤ p.header.round)
    last_high None is = tt
    last_high (Some p) is =
        let high = (last_placed node before more low graph last holds p is).high in
        let within = holds.low_enough in
        omega (arith, high, within)

-- ---- by their slots

-- each of them was held
was_after : (ledger : Ledger) (previous : Option Certificate) (front back : List Certificate) → WasHeld ledger.slots previous
    → AreChained ledger previous (front ++ back) → WasHeld ledger.slots (last_or previous front)
was_after ledger previous [] back was links = was
was_after ledger previous (c ∷ front) back was links = was_after ledger (Some c) front back (λ d is. subst (IsIn ledger.slots) (same_Some c d is) links.0) links.2

last_slot : (previous : Option Certificate) (front : List Certificate) → last_or (option_map slot_of previous) (map slot_of front) ≡ option_map slot_of (last_or previous front)
last_slot previous [] = refl
last_slot previous (c ∷ front) = last_slot (Some c) front

-- ---- all of it

inside_of : {X : Type 0} (front : List X) (c : X) (rest : List X) → Contains (front ++ c ∷ rest) c
inside_of [] c rest = Contains-first rest c
inside_of (x ∷ front) c rest = Contains-later x (front ++ c ∷ rest) c (inside_of front c rest)

last_was : (node : Node) (before more : History) (low : ℕ) (graph : DagView) (last : Option ℕ) → HoldsHistory node before more low graph last → WasHeld (slots_in graph) (last_leader_at node before)
last_was node before more low graph last holds p is = (last_placed node before more low graph last holds p is).held

-- the slots of the newer leaders
slots_linked : (node : Node) (before more : History) (low : ℕ) (graph : DagView) (last : Option ℕ) → HoldsHistory node before more low graph last
    → AreLinked graph (option_map slot_of (last_leader_at node before)) (map slot_of (newer_of node before more))
slots_linked node before more low graph last holds =
    linked graph (coins (before ++ more)) (last_leader_at node before) (newer_of node before more) (chained node before more low graph last holds) (last_was node before more low graph last holds)

marked_for : (node : Node) (before more : History) (low : ℕ) (graph : DagView) (last : Option ℕ) → HoldsHistory node before more low graph last
    → IsMarkedPast graph (floor node before) (last_leader_at node before)
    → (chain : List Certificate) → newer_of node before more ≡ chain → IsMarkedFor graph (option_map slot_of (last_leader_at node before)) (map slot_of chain)
marked_for node before more low graph last holds marks [] is = tt
marked_for node before more low graph last holds marks (c ∷ chain) is =
    let first = last_leader_at node before in
    let deep = deep_enough node before more low graph last holds c (subst (λ l. Contains l c) (sym is) (Contains-first chain c)) in
    λ r a e from held. marks r a e (omega (arith, from, deep)) held ∙ ap (λ p. is_past (ledger_in graph []) p e) (sym (held_last graph first (last_was node before more low graph last holds)))

one_orders : (node : Node) (before more : History) (low : ℕ) (graph : DagView) (last : Option ℕ) → EachFollows
    → HoldsHistory node before more low graph last → IsMarkedPast graph (floor node before) (last_leader_at node before)
    → (front rest : List Certificate) (c : Certificate) → newer_of node before more ≡ front ++ c ∷ rest → OrdersAs node (before ++ more) graph (last_or (last_leader_at node before) front) c
one_orders node before more low graph last each holds marks front rest c parts =
    let values = coins (before ++ more) in
    let first = last_leader_at node before in
    let previous = last_or first front in
    let links : AreChained (ledger_in graph values) first (front ++ c ∷ rest) = subst (AreChained (ledger_in graph values) first) parts (chained node before more low graph last holds) in
    let here = chained_after (ledger_in graph values) first front (c ∷ rest) links in
    let held_previous = held_last graph previous (was_after (ledger_in graph values) first front (c ∷ rest) (last_was node before more low graph last holds) links) in
    let by_slots : map slot_of (newer_of node before more) ≡ map slot_of front ++ slot_of c ∷ map slot_of rest = ap (map slot_of) parts ∙ map-append slot_of front (c ∷ rest) in
    let follows = subst (λ p. Follows graph p (slot_of c)) (last_slot first front)
    (each graph (option_map slot_of first) (map slot_of front) (map slot_of rest) (slot_of c) holds.graph_is
    (subst (AreLinked graph (option_map slot_of first)) by_slots (slots_linked node before more low graph last holds))
    (subst (IsMarkedFor graph (option_map slot_of first)) by_slots (marked_for node before more low graph last holds marks (newer_of node before more) refl))) in
    let same = (enough_of node before more low graph last holds).same in
    let inside : Contains (newer (ledger_of node (slots_in graph) values) (last_wave (ledger_at node before))) c = subst (λ l. Contains l c) (sym (same.same_newer ∙ parts)) (inside_of front c rest) in
    record {
      held = here.0;
      all = follows.all c here.0;
      marked = follows.marked;
      same_segment = λ other. ap (λ p. segment (ledger_in graph other) p c) held_previous
          ∙ ap (λ l. segment l previous c) (ledger_is node graph values holds.charter)
          ∙ same.same_segment previous c inside;
    }

pub orders_by_history : EachFollows → OrdersByHistory
orders_by_history each node before more low graph last holds marks = record {
  linked = slots_linked node before more low graph last holds;
  marked = marked_for node before more low graph last holds marks (newer_of node before more) refl;
  each = one_orders node before more low graph last each holds marks;
}
