-- Walks down: whatever a certificate reaches below itself, a child of it is reached too.
use Rattle.std.proofs.Common.{◌≡◌, ℕ, suc, ◌+◌, ◌-◌, ◌<◌, Bool, true, false, Some, None, inl, inr, ap, sym, ◌∙◌, subst, arith}
use Rattle.std.proofs.Math.Path.{fun_ext}
use Rattle.std.specs.Prelude.{Contains, nat_le, ◌==◌, ◌&&◌, Option, is_some}
use Rattle.std.specs.Option.{option_map_or}
use Rattle.std.proofs.lemmas.Bool.{and_parts, and_from, eqb-true, eq-eqb, leb-true, le-leb, true≢false}
use Rattle.committee.specs.Charter.{numbers}
use Rattle.spec_model.specs.Ordering.{Ledger, is_past}
use Rattle.spec_model.specs.Ordering as ordering
use Rattle.spec_model.specs.Slots.{Slots, round_of, is_parent, has_path, reaches}
use Rattle.spec_model.specs.Words.{Certificate}
use Rattle.spec_laws.proofs.Growing.{is_in}
use Rattle.spec_laws.proofs.Lists.{given_or_none, Contains-made}
use Rattle.spec_laws.proofs.Meeting.{any_to}
use Rattle.spec_laws.proofs.Votes.{slot_is}
use Rattle.dag.specs.Graph.{DagView, IsGraph, slots_in, size_in, has_parent_in, reaches_in, is_parent_of}
use Rattle.dag.proofs.Paths.{in_round, parent_below, reached_level, reached_self}
use Rattle.dag.proofs.Tests.{same_test, any_from}

-- what reaches a certificate reaches its parent
pub reaches_on : (n : ℕ) (slots : Slots) (start child end : Certificate) → Contains (round_of n slots (end.header.round + 1)) child
    → is_parent end child ≡ true → reaches n slots start child ≡ true → reaches n slots start end ≡ true
reaches_on n slots start child end inside names reached =
    let parts = and_parts (nat_le child.header.round start.header.round) (has_path n slots (start.header.round - child.header.round) start child) reached in
    let within = leb-true child.header.round start.header.round parts.0 in
    let below = parent_below end child names in
    let steps = start.header.round - child.header.round in
    let longer : has_path n slots (suc steps) start end ≡ true =
    any_from (λ c. has_path n slots steps start c && is_parent end c) (round_of n slots (end.header.round + 1)) child inside (and_from _ _ parts.1 names) in
    let count : suc steps ≡ start.header.round - end.header.round = omega (arith, below, within) in
    and_from _ _ (le-leb end.header.round start.header.round (omega (arith, within, below))) (subst (λ k. has_path n slots k start end ≡ true) count longer)

-- a child of a certificate that is reached too
pub record ReachedAt (n : ℕ) (slots : Slots) (start end : Certificate) : Type 0 where
  pub author : ℕ
  pub member : Contains (numbers n) author
  pub child : Certificate
  pub held : slots (end.header.round + 1) author ≡ Some child
  pub names : is_parent end child ≡ true
  pub reached : reaches n slots start child ≡ true

pub reaches_from : (n : ℕ) (slots : Slots) (start end : Certificate) → end.header.round < start.header.round → reaches n slots start end ≡ true → ReachedAt n slots start end
reaches_from n slots start end lower reached =
    let path = (and_parts (nat_le end.header.round start.header.round) (has_path n slots (start.header.round - end.header.round) start end) reached).1 in
    let steps = (start.header.round - 1) - end.header.round in
    let count : start.header.round - end.header.round ≡ suc steps = omega (arith, lower) in
    let longer : has_path n slots (suc steps) start end ≡ true = subst (λ k. has_path n slots k start end ≡ true) count path in
    let found = any_to (λ c. has_path n slots steps start c && is_parent end c) (round_of n slots (end.header.round + 1)) longer in
    let parts = and_parts (has_path n slots steps start found.0) (is_parent end found.0) found.2 in
    let made = Contains-made (slots (end.header.round + 1)) (numbers n) found.0 found.1 in
    let below = parent_below end found.0 parts.1 in
    let rest : steps ≡ start.header.round - found.0.header.round = omega (arith, below) in
    record {
      author = made.0;
      member = made.1;
      child = found.0;
      held = made.2;
      names = parts.1;
      reached = and_from _ _ (le-leb found.0.header.round start.header.round (omega (arith, below, lower))) (subst (λ k. has_path n slots k start found.0 ≡ true) rest parts.0);
    }

-- where the leader before reaches a certificate it reaches its parent
pub past_on : (ledger : Ledger) (previous : Option Certificate) (child end : Certificate)
    → Contains (round_of (ordering.size_in ledger) ledger.slots (end.header.round + 1)) child → is_parent end child ≡ true
    → is_past ledger previous child ≡ true
    → is_past ledger previous end ≡ true
past_on ledger None child end inside names past = absurd cc
past_on ledger (Some leader) child end inside names past = reaches_on (ordering.size_in ledger) ledger.slots leader child end inside names past

-- ---- by slots

-- the two certificates of a reference that counts
pub record HasParent (graph : DagView) (round author below other : ℕ) : Type 0 where
  pub child : Certificate
  pub held_child : slots_in graph round author ≡ Some child
  pub parent : Certificate
  pub held_parent : slots_in graph below other ≡ Some parent
  pub names : is_parent parent child ≡ true

pub parent_of : (graph : DagView) (round author below other : ℕ) → has_parent_in graph round author below other ≡ true → HasParent graph round author below other
parent_of graph round author below other has =
    elim (given_or_none (slots_in graph round author)) [
      | inr none ↦ absurd (true≢false (sym has ∙ ap (λ o. option_map_or (λ child. option_map_or (λ c. is_parent c child) (slots_in graph below other) false) o false) none))
      | inl child ↦
          let has' = sym (ap (λ o. option_map_or (λ d. option_map_or (λ c. is_parent c d) (slots_in graph below other) false) o false) child.1) ∙ has in
          elim (given_or_none (slots_in graph below other)) [
            | inr none ↦ absurd (true≢false (sym has' ∙ ap (λ o. option_map_or (λ c. is_parent c child.0) o false) none))
            | inl parent ↦
                record {
                  child = child.0;
                  held_child = child.1;
                  parent = parent.0;
                  held_parent = parent.1;
                  names = sym (ap (λ o. option_map_or (λ c. is_parent c child.0) o false) parent.1) ∙ has';
                }
          ]
    ]

-- the slots of two certificates of which one reaches the other
pub record Reaches (graph : DagView) (round author below other : ℕ) : Type 0 where
  pub start : Certificate
  pub held_start : slots_in graph round author ≡ Some start
  pub end : Certificate
  pub held_end : slots_in graph below other ≡ Some end
  pub path : reaches (size_in graph) (slots_in graph) start end ≡ true

pub reaches_of : (graph : DagView) (round author below other : ℕ) → reaches_in graph round author below other ≡ true → Reaches graph round author below other
reaches_of graph round author below other does =
    elim (given_or_none (slots_in graph round author)) [
      | inr none ↦ absurd (true≢false (sym does ∙ ap (λ o. option_map_or (λ start. option_map_or (reaches (size_in graph) (slots_in graph) start) (slots_in graph below other) false) o false) none))
      | inl start ↦
          let does' = sym (ap (λ o. option_map_or (λ s. option_map_or (reaches (size_in graph) (slots_in graph) s) (slots_in graph below other) false) o false) start.1) ∙ does in
          elim (given_or_none (slots_in graph below other)) [
            | inr none ↦ absurd (true≢false (sym does' ∙ ap (λ o. option_map_or (reaches (size_in graph) (slots_in graph) start.0) o false) none))
            | inl end ↦
                record {
                  start = start.0;
                  held_start = start.1;
                  end = end.0;
                  held_end = end.1;
                  path = sym (ap (λ o. option_map_or (reaches (size_in graph) (slots_in graph) start.0) o false) end.1) ∙ does';
                }
          ]
    ]

pub reaches_by : (graph : DagView) (round author below other : ℕ) (start end : Certificate) → slots_in graph round author ≡ Some start → slots_in graph below other ≡ Some end
    → reaches_in graph round author below other ≡ reaches (size_in graph) (slots_in graph) start end
reaches_by graph round author below other start end held held' =
    ap (λ o. option_map_or (λ s. option_map_or (reaches (size_in graph) (slots_in graph) s) (slots_in graph below other) false) o false) held
    ∙ ap (λ o. option_map_or (reaches (size_in graph) (slots_in graph) start) o false) held'

pub parent_by : (graph : DagView) (round author below other : ℕ) (child parent : Certificate) → slots_in graph round author ≡ Some child → slots_in graph below other ≡ Some parent
    → has_parent_in graph round author below other ≡ is_parent parent child
parent_by graph round author below other child parent held held' =
    ap (λ o. option_map_or (λ d. option_map_or (λ c. is_parent c d) (slots_in graph below other) false) o false) held
    ∙ ap (λ o. option_map_or (λ c. is_parent c child) o false) held'

-- whom a slot reaches in a round are the parents of those whom it reaches in the round above
pub one_down : (graph : DagView) → IsGraph graph → (start author round other : ℕ) → round < start
    → is_parent_of graph (round + 1) round (reaches_in graph start author (round + 1)) other ≡ reaches_in graph start author round other
one_down graph is start author round other lower =
    let n = size_in graph in
    let slots = slots_in graph in
    let test : ℕ → Bool = λ a. reaches_in graph start author (round + 1) a && has_parent_in graph (round + 1) a round other in
    same_test _ _
    (λ passes.
    let found = any_to test (numbers n) passes in
    let parts = and_parts (reaches_in graph start author (round + 1) found.0) (has_parent_in graph (round + 1) found.0 round other) found.2 in
    let up = reaches_of graph start author (round + 1) found.0 parts.0 in
    let by = parent_of graph (round + 1) found.0 round other parts.1 in
    let place = slot_is round other by.parent.header (is.placed round other by.parent by.held_parent) in
    let member = is.of_members (round + 1) found.0 up.end up.held_end in
    let level : slots (by.parent.header.round + 1) found.0 ≡ Some up.end = ap (λ r. slots (r + 1) found.0) place.0 ∙ up.held_end in
    let names : is_parent by.parent up.end ≡ true = sym (parent_by graph (round + 1) found.0 round other up.end by.parent up.held_end by.held_parent) ∙ parts.1 in
    let reached = reaches_on n slots up.start up.end by.parent (in_round n slots (by.parent.header.round + 1) found.0 up.end member level) names up.path in
    reaches_by graph start author round other up.start by.parent up.held_start by.held_parent ∙ reached)
    (λ reached.
    let down = reaches_of graph start author round other reached in
    let place = slot_is start author down.start.header (is.placed start author down.start down.held_start) in
    let place' = slot_is round other down.end.header (is.placed round other down.end down.held_end) in
    let over = reaches_from n slots down.start down.end (omega (arith, lower, place.0, place'.0)) down.path in
    let held : slots (round + 1) over.author ≡ Some over.child = ap (λ r. slots (r + 1) over.author) (sym place'.0) ∙ over.held in
    let has : has_parent_in graph (round + 1) over.author round other ≡ true = parent_by graph (round + 1) over.author round other over.child down.end held down.held_end ∙ over.names in
    let above : reaches_in graph start author (round + 1) over.author ≡ true = reaches_by graph start author (round + 1) over.author down.start over.child down.held_start held ∙ over.reached in
    any_from test (numbers n) over.author over.member (and_from _ _ above has))

-- of its own round a slot reaches itself, if it holds something
pub own_round : (graph : DagView) → IsGraph graph → (round author : ℕ) → is_some (slots_in graph round author) ≡ true → (other : ℕ) → (other == author) ≡ reaches_in graph round author round other
own_round graph is round author held other =
    same_test (other == author) (reaches_in graph round author round other)
    (λ same. let at : other ≡ author = eqb-true other author same in
    elim (given_or_none (slots_in graph round author)) [
      | inr none ↦ absurd (true≢false (sym held ∙ ap (λ (o : Option Certificate). is_some o) none))
      | inl c ↦ reaches_by graph round author round other c.0 c.0 c.1 (ap (slots_in graph round) at ∙ c.1) ∙ reached_self (size_in graph) (slots_in graph) c.0
    ])
    (λ does. let down = reaches_of graph round author round other does in
    let place = slot_is round author down.start.header (is.placed round author down.start down.held_start) in
    let place' = slot_is round other down.end.header (is.placed round other down.end down.held_end) in
    let same = reached_level (size_in graph) (slots_in graph) down.start down.end
    (is_in (slots_in graph) round author down.start is.placed down.held_start) (is_in (slots_in graph) round other down.end is.placed down.held_end) (omega (arith, place.0, place'.0)) down.path in
    let owner : down.start.header.author.0 ≡ down.end.header.author.0 = ap (λ (c : Certificate). c.header.author.0) same in
    eq-eqb other author (omega (arith, owner, place.1, place'.1)))

-- an empty slot reaches nothing
pub none_from : (graph : DagView) (round author below other : ℕ) → slots_in graph round author ≡ None → reaches_in graph round author below other ≡ false
none_from graph round author below other none =
    ap (λ o. option_map_or (λ start. option_map_or (reaches (size_in graph) (slots_in graph) start) (slots_in graph below other) false) o false) none

-- a walk of one step more
pub walked : (graph : DagView) → IsGraph graph → (start author past : ℕ) (above : ℕ → Bool) → past < start
    → ((other : ℕ) → above other ≡ reaches_in graph start author (start - past) other) → (other : ℕ)
    → is_parent_of graph (start - past) ((start - past) - 1) above other ≡ reaches_in graph start author (start - (past + 1)) other
walked graph is start author past above within so_far other =
    let below : (start - past) - 1 ≡ start - (past + 1) = omega arith in
    let level : start - past ≡ start - (past + 1) + 1 = omega (arith, within) in
    ap (λ r. is_parent_of graph (start - past) r above other) below
    ∙ ap (λ r. is_parent_of graph r (start - (past + 1)) above other) level
    ∙ ap (λ (f : ℕ → Bool). is_parent_of graph (start - (past + 1) + 1) (start - (past + 1)) f other) (fun_ext (λ a. so_far a ∙ ap (λ r. reaches_in graph start author r a) level))
    ∙ one_down graph is start author (start - (past + 1)) other (omega (arith, within))
