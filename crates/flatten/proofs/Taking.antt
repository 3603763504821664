-- What the leader before reaches is taken out of the unmarked sets.
use Rattle.std.proofs.Common.{◌≡◌, ℕ, ◌+◌, ◌-◌, ◌<◌, ◌≤◌, Bool, true, false, List, [], Option, Some, None, inl, inr, refl, ap, sym, ◌∙◌, subst, arith, Bor, option_copied}
use Rattle.std.specs.Prelude.{not, is_some, IfSome, ◌&&◌, ◌||◌, nat_le, nat_lt, sum_by}
use Rattle.std.specs.List.{range_with_len}
use Rattle.std.specs.Option.{option_map_or}
use Rattle.std.proofs.lemmas.Bool.{cases_Bool, cases_lt, leb-true, le-leb, lt-ltb, true≢false, and_parts}
use Rattle.std.proofs.lemmas.Option.{same_Some, none-some}
use Rattle.committee.specs.declared.sets.MemberSet.{MemberSet}
use Rattle.spec_model.specs.Ordering.{is_past}
use Rattle.spec_model.specs.Slots.{has_path, reaches}
use Rattle.spec_model.specs.Words.{Author, Certificate}
use Rattle.spec_laws.proofs.Growing.{and_false}
use Rattle.spec_laws.proofs.Lists.{given_or_none}
use Rattle.spec_laws.proofs.Votes.{slot_is}
use Rattle.dag.proofs.Paths.{reached_self, in_round}
use Rattle.dag.proofs.Steps.{or_false}
use Rattle.dag.proofs.Walking.{parent_of, reaches_by, none_from, past_on}
use Rattle.dag.specs.Graph.{DagView, IsGraph, slots_in, marked_in, size_in, reaches_in, references_of}
use Rattle.tusk.specs.Chain.{ledger_in}
use Rattle.flatten.specs.Segments.{leader_held, is_unmarked_past, unmarked_references_in, IsMarkedPast, IsMarkedBefore}
use Rattle.flatten.specs.Sets.{is_in, is_free, is_unmarked_in, orders_in, lowest_in, is_past_in, AreClosed, AreUnordered, IsTakenFrom, HasAllOf}
use Rattle.flatten.proofs.Below.{none_read}
use Rattle.flatten.proofs.Picking.{first_unordered, reads_are}
use Rattle.flatten.proofs.Ranges.{sums_none}

and_true : (b : Bool) → (b && true) ≡ b
and_true true = refl
and_true false = refl

-- ---- who isn't reached

pub some_copied : (o : Option (Bor Certificate)) → is_some (option_copied o) ≡ is_some o
some_copied None = refl
some_copied (Some b) = refl

pub none_there : (o : Option Certificate) → is_some o ≡ false → o ≡ None
none_there None is = refl
none_there (Some c) is = absurd (true≢false is)

-- what lies higher isn't reached
pub not_above : (graph : DagView) → IsGraph graph → (round author below other : ℕ) → round < below → reaches_in graph round author below other ≡ false
not_above graph is round author below other higher =
    elim (given_or_none (slots_in graph round author)) [
      | inr none ↦ none_from graph round author below other none
      | inl start ↦ elim (given_or_none (slots_in graph below other)) [
        | inr none ↦
            ap (λ o. option_map_or (λ s. option_map_or (reaches (size_in graph) (slots_in graph) s) (slots_in graph below other) false) o false) start.1
            ∙ ap (λ o. option_map_or (reaches (size_in graph) (slots_in graph) start.0) o false) none
        | inl end ↦
            let place = slot_is round author start.0.header (is.placed round author start.0 start.1) in
            let place' = slot_is below other end.0.header (is.placed below other end.0 end.1) in
            let out : nat_le end.0.header.round start.0.header.round ≡ false = grind (arith, higher, place, place') in
            reaches_by graph round author below other start.0 end.0 start.1 end.1
            ∙ ap (λ b. b && has_path (size_in graph) (slots_in graph) (start.0.header.round - end.0.header.round) start.0 end.0) out
      ]
    ]

-- a leader that would lie too high isn't held, and so it reaches nothing
pub never_reached : (graph : DagView) (before : ℕ × Author) (high : ℕ) → (is_some (slots_in graph before.0 before.1.0) ≡ true → before.0 ≤ high)
    → high < before.0 → (round author : ℕ) → reaches_in graph before.0 before.1.0 round author ≡ false
never_reached graph before high within over round author =
    elim (given_or_none (slots_in graph before.0 before.1.0)) [
      | inr none ↦ none_from graph before.0 before.1.0 round author none
      | inl c ↦ let there = within (ap (λ (o : Option Certificate). is_some o) c.1) in absurd (omega (arith, there, over))
    ]

-- nothing is taken where nothing is reached
pub untaken : (graph : DagView) (before : ℕ × Author) (round author : ℕ) (inside : Bool) → reaches_in graph before.0 before.1.0 round author ≡ false
    → inside ≡ (inside && not (is_past_in graph (Some before) round author))
untaken graph before round author inside never = sym (ap (λ b. inside && not b) never ∙ and_true inside)

-- ---- what is taken

-- what a leader reaches is no longer free, where it is put into the sets of what was ordered so far
pub walked_free : (graph : DagView) → IsGraph graph → (leader : ℕ × Author) (bottom top : ℕ) (old new walked : List MemberSet) → leader.0 ≤ top
    → ((place other : ℕ) → place < leader.0 + 1 - bottom → is_in walked place other ≡ orders_in graph leader.0 leader.1.0 (is_free graph top old) (leader.0 - place) other)
    → ((place author : ℕ) → is_in new place author ≡ (is_in old place author || (nat_le (top - leader.0) place && is_in walked (place - (top - leader.0)) author)))
    → (round other : ℕ) → bottom ≤ round → round ≤ top → is_free graph top new round other ≡ (is_free graph top old round other && not (reaches_in graph leader.0 leader.1.0 round other))
walked_free graph is leader bottom top old new walked within orders put round other above below =
    let unmarked = is_unmarked_in graph round other in
    let was = is_in old (top - round) other in
    let reached = reaches_in graph leader.0 leader.1.0 round other in
    ap (λ b. unmarked && not b) (put (top - round) other)
    ∙ elim (cases_lt leader.0 round) [
      | inl higher ↦
          let out : nat_le (top - leader.0) (top - round) ≡ false = grind (arith, higher, below) in
          ap (λ b. unmarked && not (was || (b && is_in walked ((top - round) - (top - leader.0)) other))) out
          ∙ ap (λ b. unmarked && not b) (or_false was)
          ∙ sym (ap (λ b. (unmarked && not was) && not b) (not_above graph is leader.0 leader.1.0 round other higher) ∙ and_true (unmarked && not was))
      | inr lower ↦
          let inside : nat_le (top - leader.0) (top - round) ≡ true = le-leb (top - leader.0) (top - round) (omega (arith, lower)) in
          let place : (top - round) - (top - leader.0) ≡ leader.0 - round = omega (arith, lower, within) in
          let level : leader.0 - (leader.0 - round) ≡ round = omega (arith, lower) in
          ap (λ b. unmarked && not (was || (b && is_in walked ((top - round) - (top - leader.0)) other))) inside
          ∙ ap (λ k. unmarked && not (was || is_in walked k other)) place
          ∙ ap (λ b. unmarked && not (was || b)) (orders (leader.0 - round) other (omega (arith, above, lower)) ∙ ap (λ r. orders_in graph leader.0 leader.1.0 (is_free graph top old) r other) level)
          ∙ table unmarked was reached
    ]
  where
    table : (u o w : Bool) → (u && not (o || (w && (u && not o)))) ≡ ((u && not o) && not w)
    table false o w = refl
    table true true w = refl
    table true false true = refl
    table true false false = refl

-- ---- those without a mark

-- nothing was ordered so far
pub bare : (graph : DagView) (top : ℕ) (taken : List MemberSet) → taken ≡ [] → (round author : ℕ) → is_free graph top taken round author ≡ is_unmarked_in graph round author
bare graph top taken none round author =
    ap (λ l. is_unmarked_in graph round author && not (is_in l (top - round) author)) none ∙ and_true (is_unmarked_in graph round author)

-- what has a parent that isn't marked isn't marked either
pub unmarked_closed : (graph : DagView) (previous : Option Certificate) (from low high : ℕ) (free : ℕ → ℕ → Bool) → IsMarkedBefore graph from previous → from ≤ low
    → ((round author : ℕ) → free round author ≡ is_unmarked_in graph round author) → AreClosed graph low high free
unmarked_closed graph previous from low high free marks least unmarked round author other above below inside has =
    let found = parent_of graph (round + 1) author round other has in
    let open_one : is_unmarked_in graph round other ≡ true = sym (unmarked round other) ∙ inside in
    let bare_one = (and_parts (is_some (slots_in graph round other)) (not (marked_in graph round other)) open_one).1 in
    unmarked (round + 1) author
    ∙ ap (λ (o : Option Certificate). is_some o && not (marked_in graph (round + 1) author)) found.held_child
    ∙ elim (cases_Bool (marked_in graph (round + 1) author)) [
      | inr bare_too ↦ ap not bare_too
      | inl marked ↦ absurd (true≢false (sym bare_one ∙ ap not (marks.closed round author other (omega (arith, above, least)) marked has)))
    ]

-- a slot is past exactly where what it holds is in the leader's history
pub slot_past : (graph : DagView) (previous : Option (ℕ × Author)) (round author : ℕ) (c : Certificate) → slots_in graph round author ≡ Some c
    → is_past_in graph previous round author ≡ is_past (ledger_in graph []) (leader_held graph previous) c
slot_past graph None round author c held = refl
slot_past graph (Some before) round author c held =
    elim (given_or_none (slots_in graph before.0 before.1.0)) [
      | inr none ↦ none_from graph before.0 before.1.0 round author none ∙ sym (ap (λ o. is_past (ledger_in graph []) o c) none)
      | inl start ↦ reaches_by graph before.0 before.1.0 round author start.0 c start.1 held ∙ sym (ap (λ o. is_past (ledger_in graph []) o c) start.1)
    ]

-- without what the leader before reaches those are free that are unordered
pub unordered_taken : (graph : DagView) → (previous : Option (ℕ × Author)) (leader low : ℕ) (free new : ℕ → ℕ → Bool)
    → IsMarkedBefore graph (leader - graph.charter.depth) (leader_held graph previous) → low ≡ lowest_in graph leader
    → ((round author : ℕ) → free round author ≡ is_unmarked_in graph round author)
    → ((round author : ℕ) → low ≤ round → round ≤ leader → new round author ≡ (free round author && not (is_past_in graph previous round author)))
    → AreUnordered graph (leader_held graph previous) (lowest_in graph leader) leader new
unordered_taken graph previous leader low free new marks lowest unmarked without round author c above below held =
    without round author (omega (arith, above, lowest)) below
    ∙ ap (λ b. b && not (is_past_in graph previous round author)) (unmarked round author)
    ∙ ap (λ (o : Option Certificate). (is_some o && not (marked_in graph round author)) && not (is_past_in graph previous round author)) held
    ∙ ap (λ b. not (marked_in graph round author) && not b) (slot_past graph previous round author c held)
    ∙ either (marked_in graph round author) (is_past (ledger_in graph []) (leader_held graph previous) c) (marks.past round author c (omega (arith, above)) held)
  where
    either : (m p : Bool) → (m ≡ true → p ≡ true) → (not m && not p) ≡ not p
    either true p so = sym (ap not (so refl))
    either false p so = refl

-- ---- what is marked

-- what is marked exactly as a leader's history is so before each one that has all of that
pub past_before : (graph : DagView) → IsGraph graph → (low : ℕ) (one other : Option Certificate) → IsMarkedPast graph low one
    → ((round author : ℕ) (c : Certificate) → slots_in graph round author ≡ Some c → is_past (ledger_in graph []) one c ≡ true
    → is_past (ledger_in graph []) other c ≡ true)
    → IsMarkedBefore graph low other
past_before graph is low one other marks all = record {
  past = λ round author c above held marked. all round author c held (sym (marks round author c above held) ∙ marked);
  closed = λ round author place above marked has.
      let found = parent_of graph (round + 1) author round place has in
      let at = slot_is round place found.parent.header (is.placed round place found.parent found.held_parent) in
      let member = is.of_members (round + 1) author found.child found.held_child in
      let level : slots_in graph (found.parent.header.round + 1) author ≡ Some found.child = ap (λ r. slots_in graph (r + 1) author) at.0 ∙ found.held_child in
      let inside = in_round (size_in graph) (slots_in graph) (found.parent.header.round + 1) author found.child member level in
      let past = sym (marks (round + 1) author found.child (omega (arith, above)) found.held_child) ∙ marked in
      marks round place found.parent above found.held_parent ∙ past_on (ledger_in graph []) one found.child found.parent inside found.names past;
}

-- a leader that has all that one before has isn't below it
pub not_below : (graph : DagView) → IsGraph graph → (before leader : ℕ × Author) (c : Certificate) → slots_in graph leader.0 leader.1.0 ≡ Some c
    → is_some (slots_in graph before.0 before.1.0) ≡ true → HasAllOf graph (leader_held graph (Some before)) c
    → before.0 ≤ leader.0
not_below graph is before leader c held some all =
    elim (given_or_none (slots_in graph before.0 before.1.0)) [
      | inr none ↦ absurd (true≢false (sym some ∙ ap (λ (o : Option Certificate). is_some o) none))
      | inl d ↦
          let own = ap (λ o. is_past (ledger_in graph []) o d.0) d.1 ∙ reached_self (size_in graph) (slots_in graph) d.0 in
          let reached = all before.0 before.1.0 d.0 d.1 own in
          let place = slot_is leader.0 leader.1.0 c.header (is.placed leader.0 leader.1.0 c held) in
          let place' = slot_is before.0 before.1.0 d.0.header (is.placed before.0 before.1.0 d.0 d.1) in
          let within = leb-true d.0.header.round c.header.round
          (and_parts (nat_le d.0.header.round c.header.round)
          (has_path (size_in graph) (slots_in graph) (c.header.round - d.0.header.round) c d.0) reached).0 in
          omega (arith, within, place.0, place'.0)
    ]

-- ---- what is read for it

-- of the rounds up to its own the leader before takes whom it reaches and who isn't marked
takes : (graph : DagView) (before : ℕ × Author) (d : Certificate) (free : ℕ → ℕ → Bool) → slots_in graph before.0 before.1.0 ≡ Some d
    → ((round author : ℕ) → free round author ≡ is_unmarked_in graph round author)
    → (r a : ℕ) (e : Certificate) → slots_in graph r a ≡ Some e → orders_in graph before.0 before.1.0 free r a ≡ (reaches (size_in graph) (slots_in graph) d e && not (marked_in graph r a))
takes graph before d free held unmarked r a e there =
    ap (λ b. b && free r a) (reaches_by graph before.0 before.1.0 r a d e held there)
    ∙ ap (λ b. reaches (size_in graph) (slots_in graph) d e && b)
    (unmarked r a ∙ ap (λ (o : Option Certificate). is_some o && not (marked_in graph r a)) there)

-- the references of that are read
taken_reads : (graph : DagView) → IsGraph graph → (before : ℕ × Author) (d : Certificate) (low : ℕ) (free : ℕ → ℕ → Bool) → slots_in graph before.0 before.1.0 ≡ Some d
    → ((round author : ℕ) → free round author ≡ is_unmarked_in graph round author)
    → sum_by (λ r. references_of graph r (orders_in graph before.0 before.1.0 free r)) (range_with_len (low + 1) (before.0 - low)) ≡ unmarked_references_in graph low (Some d)
taken_reads graph is before d low free held unmarked =
    let f : ℕ → ℕ = λ r. references_of graph r (orders_in graph before.0 before.1.0 free r) in
    let at = slot_is before.0 before.1.0 d.header (is.placed before.0 before.1.0 d held) in
    let fails : (r a : ℕ) (e : Certificate) → r ≤ low → slots_in graph r a ≡ Some e → is_unmarked_past graph low (Some d) e ≡ false =
    λ r a e below there. let place = slot_is r a e.header (is.placed r a e there) in
    let out : nat_lt low e.header.round ≡ false = grind (arith, below, place) in
    ap (λ b. b && (reaches (size_in graph) (slots_in graph) d e && not (marked_in graph e.header.round e.header.author.0))) out in
    elim (cases_lt before.0 low) [
      | inl under ↦
          let none : before.0 - low ≡ 0 = omega (arith, under) in
          let none' : before.0 - before.0 ≡ 0 = omega arith in
          let zero : sum_by f (range_with_len (low + 1) (before.0 - low)) ≡ 0 = ap (λ k. sum_by f (range_with_len (low + 1) k)) none in
          let zero' : sum_by f (range_with_len (before.0 + 1) (before.0 - before.0)) ≡ 0 = ap (λ k. sum_by f (range_with_len (before.0 + 1) k)) none' in
          let all = reads_are graph is before d held before.0 free (is_unmarked_past graph low (Some d)) (omega arith)
          (λ r a e above below there. absurd (omega (arith, above, below)))
          (λ r a e below there. fails r a e (omega (arith, below, under)) there) in
          zero ∙ sym zero' ∙ all
      | inr over ↦
          reads_are graph is before d held low free (is_unmarked_past graph low (Some d)) over
          (λ r a e above below there. let place = slot_is r a e.header (is.placed r a e there) in
          let high : nat_lt low e.header.round ≡ true = lt-ltb low e.header.round (omega (arith, above, place.0)) in
          takes graph before d free held unmarked r a e there
          ∙ sym (ap (λ b. b && (reaches (size_in graph) (slots_in graph) d e && not (marked_in graph e.header.round e.header.author.0))) high
          ∙ ap (λ q. reaches (size_in graph) (slots_in graph) d e && not (marked_in graph q e.header.author.0)) place.0
          ∙ ap (λ q. reaches (size_in graph) (slots_in graph) d e && not (marked_in graph r q)) place.1))
          fails
    ]

-- none, where exactly the history of the leader before is marked
none_taken_read : (graph : DagView) (before : ℕ × Author) (d : Certificate) (low : ℕ) (free : ℕ → ℕ → Bool) → slots_in graph before.0 before.1.0 ≡ Some d
    → ((round author : ℕ) → free round author ≡ is_unmarked_in graph round author)
    → IsMarkedPast graph low (Some d) → sum_by (λ r. references_of graph r (orders_in graph before.0 before.1.0 free r)) (range_with_len (low + 1) (before.0 - low)) ≡ 0
none_taken_read graph before d low free held unmarked marks =
    sums_none (λ r. references_of graph r (orders_in graph before.0 before.1.0 free r)) (low + 1) (before.0 - low)
    (λ r above below. none_read graph r (orders_in graph before.0 before.1.0 free r)
    (λ a. elim (given_or_none (slots_in graph r a)) [
      | inl e ↦
          takes graph before d free held unmarked r a e.0 e.1
          ∙ ap (λ b. reaches (size_in graph) (slots_in graph) d e.0 && not b) (marks r a e.0 (omega (arith, above)) e.1)
          ∙ neither (reaches (size_in graph) (slots_in graph) d e.0)
      | inr none ↦
          ap (λ b. reaches_in graph before.0 before.1.0 r a && b) (unmarked r a ∙ ap (λ (o : Option Certificate). is_some o && not (marked_in graph r a)) none)
          ∙ and_false (reaches_in graph before.0 before.1.0 r a)
    ]))
  where
    neither : (b : Bool) → (b && not b) ≡ false
    neither true = refl
    neither false = refl

-- ---- what the leader before is taken from

-- before anything is ordered those are free that aren't marked
pub record AreFirst (graph : DagView) (leader : ℕ × Author) (c : Certificate) (low : ℕ) (free : ℕ → ℕ → Bool) : Type 0 where
  pub is : IsGraph graph
  pub held : slots_in graph leader.0 leader.1.0 ≡ Some c
  pub lowest : low ≡ lowest_in graph leader.0
  pub unmarked : (round author : ℕ) → free round author ≡ is_unmarked_in graph round author

-- what the leader before takes of them
abbrev pub IsWithout : DagView → Option (ℕ × Author) → ℕ → ℕ → (ℕ → ℕ → Bool) → (ℕ → ℕ → Bool) → Type 0
IsWithout graph previous low high free new = IsTakenFrom graph previous low high free → (round author : ℕ) → low ≤ round → round ≤ high
    → new round author ≡ (free round author && not (is_past_in graph previous round author))

-- and what is read for it
abbrev pub AreReadFor : DagView → Option (ℕ × Author) → ℕ → ℕ → (ℕ → ℕ → Bool) → ℕ → Type 0
AreReadFor graph previous low high free reads = (before : ℕ × Author) → IsTakenFrom graph previous low high free → previous ≡ Some before → is_some (slots_in graph before.0 before.1.0) ≡ true
    → reads ≡ sum_by (λ r. references_of graph r (orders_in graph before.0 before.1.0 free r)) (range_with_len (low + 1) (before.0 - low))

-- no leader before lies above the leader
abbrev IsNotAbove : DagView → Option (ℕ × Author) → ℕ → Type 0
IsNotAbove graph previous high = (slot : ℕ × Author) → previous ≡ Some slot → is_some (slots_in graph slot.0 slot.1.0) ≡ true → slot.0 ≤ high

first_from : (graph : DagView) (previous : Option (ℕ × Author)) (leader : ℕ × Author) (c : Certificate) (low : ℕ) (free : ℕ → ℕ → Bool)
    → AreFirst graph leader c low free → IsNotAbove graph previous leader.0
    → IsMarkedBefore graph (leader.0 - graph.charter.depth) (leader_held graph previous) → IsTakenFrom graph previous low leader.0 free
first_from graph previous leader c low free first within marks = record {
  within = within;
  closed = unmarked_closed graph (leader_held graph previous) (leader.0 - graph.charter.depth) low leader.0 free marks (let lowest = first.lowest in omega (arith, lowest)) first.unmarked;
}

chained_within : (graph : DagView) (previous : Option (ℕ × Author)) (leader : ℕ × Author) (c : Certificate) → IsGraph graph
    → slots_in graph leader.0 leader.1.0 ≡ Some c → HasAllOf graph (leader_held graph previous) c → IsNotAbove graph previous leader.0
chained_within graph previous leader c is held all slot same some =
    not_below graph is slot leader c held some (λ r a e there past. all r a e there (subst (λ p. is_past (ledger_in graph []) (leader_held graph p) e ≡ true) (sym same) past))

-- where the leader reaches the one before, without what that takes those are free that are unordered
pub chained_sets : (graph : DagView) (previous : Option (ℕ × Author)) (leader : ℕ × Author) (c : Certificate) (low : ℕ) (free new : ℕ → ℕ → Bool)
    → AreFirst graph leader c low free → HasAllOf graph (leader_held graph previous) c
    → IsMarkedBefore graph (leader.0 - graph.charter.depth) (leader_held graph previous) → IsWithout graph previous low leader.0 free new
    → AreUnordered graph (leader_held graph previous) (lowest_in graph leader.0) leader.0 new
chained_sets graph previous leader c low free new first all marks without =
    unordered_taken graph previous leader.0 low free new marks first.lowest first.unmarked
    (without (first_from graph previous leader c low free first (chained_within graph previous leader c first.is first.held all) marks))

held_some : (graph : DagView) (slot : ℕ × Author) (d : Certificate) → slots_in graph slot.0 slot.1.0 ≡ Some d → is_some (slots_in graph slot.0 slot.1.0) ≡ true
held_some graph slot d there = ap (λ (o : Option Certificate). is_some o) there

-- and what the one before reaches without a mark is read
pub chained_reads : (graph : DagView) (previous : Option (ℕ × Author)) (leader : ℕ × Author) (c : Certificate) (low reads : ℕ) (free : ℕ → ℕ → Bool)
    → AreFirst graph leader c low free → HasAllOf graph (leader_held graph previous) c
    → IsMarkedBefore graph (leader.0 - graph.charter.depth) (leader_held graph previous) → AreReadFor graph previous low leader.0 free reads → (leader_held graph previous ≡ None → reads ≡ 0)
    → reads ≡ unmarked_references_in graph (lowest_in graph leader.0) (leader_held graph previous)
chained_reads graph previous leader c low reads free first all marks most unheld =
    elim (given_or_none (leader_held graph previous)) [
      | inr none ↦ unheld none ∙ sym (ap (unmarked_references_in graph (lowest_in graph leader.0)) none)
      | inl d ↦ elim (given_or_none previous) [
        | inr nothing ↦ absurd (none-some d.0 (sym (ap (leader_held graph) nothing) ∙ d.1))
        | inl before ↦
            let from = first_from graph previous leader c low free first (chained_within graph previous leader c first.is first.held all) marks in
            let there : slots_in graph before.0.0 before.0.1.0 ≡ Some d.0 = sym (ap (leader_held graph) before.1) ∙ d.1 in
            most before.0 from before.1 (held_some graph before.0 d.0 there)
            ∙ taken_reads graph first.is before.0 d.0 low free there first.unmarked
            ∙ ap (λ k. unmarked_references_in graph k (Some d.0)) first.lowest
            ∙ ap (unmarked_references_in graph (lowest_in graph leader.0)) (sym d.1)
      ]
    ]

-- where exactly that is marked which the leader before reaches, there is nothing more to take
pub first_sets : (graph : DagView) (previous : Option (ℕ × Author)) (leader : ℕ × Author) (c : Certificate) (low : ℕ) (free new : ℕ → ℕ → Bool) → AreFirst graph leader c low free
    → IsMarkedPast graph (leader.0 - graph.charter.depth) (leader_held graph previous) → IsWithout graph previous low leader.0 free new
    → (IfSome previous (λ before. leader.0 < before.0) → (round author : ℕ) → new round author ≡ free round author)
    → AreUnordered graph (leader_held graph previous) (lowest_in graph leader.0) leader.0 new
first_sets graph previous leader c low free new first marks without same =
    let before = past_before graph first.is (leader.0 - graph.charter.depth) (leader_held graph previous) (leader_held graph previous) marks (λ r a e held past. past) in
    let on : IsNotAbove graph previous leader.0 → AreUnordered graph (leader_held graph previous) (lowest_in graph leader.0) leader.0 new =
    λ within. unordered_taken graph previous leader.0 low free new before first.lowest first.unmarked (without (first_from graph previous leader c low free first within before)) in
    elim (given_or_none previous) [
      | inr none ↦ on (λ slot is some. absurd (none-some slot (sym none ∙ is)))
      | inl slot ↦ elim (cases_lt leader.0 slot.0.0) [
        | inr within ↦ on (λ other is some. subst (λ (s : ℕ × Author). s.0 ≤ leader.0) (same_Some slot.0 other (sym slot.1 ∙ is)) within)
        | inl above ↦
            let still = same (subst (λ p. IfSome p (λ (b : ℕ × Author). leader.0 < b.0)) (sym slot.1) above) in
            first_unordered graph (leader_held graph previous) leader.0 leader.0 new marks (λ r a. still r a ∙ first.unmarked r a)
      ]
    ]

-- and nothing is read
pub first_reads : (graph : DagView) (previous : Option (ℕ × Author)) (leader : ℕ × Author) (c : Certificate) (low reads : ℕ) (free : ℕ → ℕ → Bool) → AreFirst graph leader c low free
    → IsMarkedPast graph (leader.0 - graph.charter.depth) (leader_held graph previous) → AreReadFor graph previous low leader.0 free reads → (leader_held graph previous ≡ None → reads ≡ 0)
    → (IfSome previous (λ before. leader.0 < before.0) → reads ≡ 0) → reads ≡ 0
first_reads graph previous leader c low reads free first marks most unheld above_all =
    elim (given_or_none (leader_held graph previous)) [
      | inr none ↦ unheld none
      | inl d ↦ elim (given_or_none previous) [
        | inr nothing ↦ absurd (none-some d.0 (sym (ap (leader_held graph) nothing) ∙ d.1))
        | inl slot ↦ elim (cases_lt leader.0 slot.0.0) [
          | inl above ↦ above_all (subst (λ p. IfSome p (λ (b : ℕ × Author). leader.0 < b.0)) (sym slot.1) above)
          | inr within ↦
              let before = past_before graph first.is (leader.0 - graph.charter.depth) (leader_held graph previous) (leader_held graph previous) marks (λ r a e held past. past) in
              let from = first_from graph previous leader c low free first (λ other is some. subst (λ (s : ℕ × Author). s.0 ≤ leader.0) (same_Some slot.0 other (sym slot.1 ∙ is)) within) before in
              let there : slots_in graph slot.0.0 slot.0.1.0 ≡ Some d.0 = sym (ap (leader_held graph) slot.1) ∙ d.1 in
              let lowest = first.lowest in
              most slot.0 from slot.1 (held_some graph slot.0 d.0 there)
              ∙ none_taken_read graph slot.0 d.0 low free there first.unmarked
              (λ r a e over held. marks r a e (omega (arith, over, lowest)) held ∙ ap (λ p. is_past (ledger_in graph []) p e) d.1)
        ]
      ]
    ]
