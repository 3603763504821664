-- What a leader orders, read off sets of authors.
use Rattle.std.proofs.Common.{◌≡◌, ℕ, ◌+◌, ◌-◌, ◌<◌, ◌≤◌, Bool, true, false, cond, max, List, [], ◌∷◌, ◌++◌, length, Option, Some, None, inl, inr, refl, ap, sym, ◌∙◌, subst, arith}
use Rattle.std.specs.Prelude.{not, is_some, ◌&&◌, nat_le, nat_lt, sum_by, filter, filter_map, flat_map, option_map, if◌then◌else◌}
use Rattle.std.specs.List.{range_with_len}
use Rattle.std.specs.Option.{option_map_or}
use Rattle.std.proofs.lemmas.Bool.{cases_Bool, leb-true, le-leb, lt-ltb}
use Rattle.std.proofs.lemmas.List.{map-append}
use Rattle.std.proofs.lemmas.List.Concat.{flat_map-cons}
use Rattle.std.proofs.lemmas.List.Elements.{filter-append}
use Rattle.std.proofs.lemmas.List.Sums.{sum_by-cons, sum_by-append}
use Rattle.committee.specs.Charter.{numbers}
use Rattle.committee.specs.declared.sets.MemberSet.{MemberSet}
use Rattle.spec_model.specs.Ordering.{is_past, is_ordered_by, rounds_to, segment}
use Rattle.spec_model.specs.Slots.{certificate_digest, round_of, reaches}
use Rattle.spec_model.specs.Words.{Author, Certificate, Digest}
use Rattle.spec_laws.proofs.Lists.{given_or_none}
use Rattle.spec_laws.proofs.Votes.{slot_is}
use Rattle.spec_laws.proofs.Growing.{and_false}
use Rattle.dag.specs.Graph.{DagView, IsGraph, slots_in, marked_in, size_in, reaches_in, references_at, references_of}
use Rattle.dag.proofs.Walking.{reaches_by}
use Rattle.tusk.specs.Chain.{ledger_in}
use Rattle.flatten.specs.Segments.{is_new_to, is_read_for, references_in, read_references_in, digests_of, IsMarkedPast}
use Rattle.flatten.specs.Sets.{is_in, is_unmarked_in, digests_at, orders_in, lowest_in, AreClosed, AreUnordered, Leads, HasAllOf}
use Rattle.flatten.proofs.Ranges.{range_parts, lists_same, lists_none, sums_same, sum_lists, sum_zero, sums_none, sum_less}
use Rattle.flatten.proofs.Below.{are_closed}
use Rattle.flatten.proofs.Places.{past_end}
use Rattle.std.proofs.lemmas.Grind.{flat_map-append}

-- ---- who is free

-- those without a mark are unordered, from the lowest round on that a leader orders of
pub first_unordered : (graph : DagView) (previous : Option Certificate) (leader high : ℕ) (free : ℕ → ℕ → Bool) → IsMarkedPast graph (leader - graph.charter.depth) previous
    → ((round author : ℕ) → free round author ≡ is_unmarked_in graph round author) → AreUnordered graph previous (lowest_in graph leader) high free
first_unordered graph previous leader high free marked unmarked round author c above below held =
    unmarked round author
    ∙ ap (λ (o : Option Certificate). is_some o && not (marked_in graph round author)) held
    ∙ ap not (marked round author c (omega (arith, above)) held)

-- who is unordered before a leader is closed in the rounds that it orders of
pub closed_before : (graph : DagView) → IsGraph graph → (previous : Option Certificate) (leader : ℕ × Author) (high : ℕ) (free : ℕ → ℕ → Bool)
    (c : Certificate) → Leads graph previous leader high free c
    → (from : ℕ) → from ≡ lowest_in graph leader.0 → AreClosed graph from leader.0 free
closed_before graph is previous leader high free c leads from at =
    subst (λ r. AreClosed graph r leader.0 free) (sym at) (are_closed graph is previous (lowest_in graph leader.0) leader.0 high free leads.within leads.unordered)

-- ---- a round

-- the digests of what passes of a round
picked : (held : ℕ → Option Certificate) (passes : ℕ → Bool) (test : Certificate → Bool) (authors : List ℕ) → ((a : ℕ) (c : Certificate) → held a ≡ Some c → passes a ≡ test c)
    → filter_map (λ a. if passes a then option_map (λ (c : Certificate). certificate_digest c.header) (held a) else None) authors ≡ digests_of (filter test (filter_map held authors))
picked held passes test [] same = refl
picked held passes test (a ∷ authors) same =
    let rest = picked held passes test authors same in
    elim (given_or_none (held a)) [
      | inl c ↦
          let alike = same a c.0 c.1 in
          elim (cases_Bool (test c.0)) [
            | inl here ↦ let here' = alike ∙ here in rw (c.1, here', here) (ap (λ l. certificate_digest c.0.header ∷ l) rest)
            | inr other ↦ let other' = alike ∙ other in rw (c.1, other', other) rest
          ]
      | inr none ↦ elim (cases_Bool (passes a)) [
        | inl here ↦ rw (none, here) rest
        | inr other ↦ rw (none, other) rest
      ]
    ]

-- nothing passes of a round
none_picked : (held : ℕ → Option Certificate) (test : Certificate → Bool) (authors : List ℕ)
    → ((a : ℕ) (c : Certificate) → held a ≡ Some c → test c ≡ false) → digests_of (filter test (filter_map held authors)) ≡ []
none_picked held test [] fails = refl
none_picked held test (a ∷ authors) fails =
    let rest = none_picked held test authors fails in
    elim (given_or_none (held a)) [
      | inl c ↦ let out = fails a c.0 c.1 in rw (c.1, out) rest
      | inr none ↦ rw none rest
    ]

-- a sum over what a round holds
summed : (held : ℕ → Option Certificate) (f : ℕ → ℕ) (g : Certificate → ℕ) (authors : List ℕ) → ((a : ℕ) (c : Certificate) → held a ≡ Some c → f a ≡ g c) → ((a : ℕ) → held a ≡ None → f a ≡ 0)
    → sum_by f authors ≡ sum_by g (filter_map held authors)
summed held f g [] same none = refl
summed held f g (a ∷ authors) same none =
    let rest = summed held f g authors same none in
    elim (given_or_none (held a)) [
      | inl c ↦
          sum_by-cons f a authors ∙ ap (λ k. k + sum_by f authors) (same a c.0 c.1) ∙ ap (λ k. g c.0 + k) rest
          ∙ sym (let is = c.1 in rw is (sum_by-cons g c.0 (filter_map held authors)))
      | inr nothing ↦
          let zero_more : 0 + sum_by f authors ≡ sum_by f authors = omega arith in
          sum_by-cons f a authors ∙ ap (λ k. k + sum_by f authors) (none a nothing) ∙ zero_more ∙ rest ∙ sym (rw nothing refl)
    ]

-- digests of what passes, round by round
digests_by_round : (test : Certificate → Bool) (make : ℕ → List Certificate) (rounds : List ℕ) → digests_of (filter test (flat_map make rounds))
    ≡ flat_map (λ r. digests_of (filter test (make r))) rounds
digests_by_round test make [] = refl
digests_by_round test make (r ∷ rounds) =
    ap (λ l. digests_of (filter test l)) (flat_map-cons make r rounds)
    ∙ ap digests_of (filter-append test (make r) (flat_map make rounds))
    ∙ map-append (λ (c : Certificate). certificate_digest c.header) (filter test (make r)) (filter test (flat_map make rounds))
    ∙ ap (λ l. digests_of (filter test (make r)) ++ l) (digests_by_round test make rounds)
    ∙ sym (flat_map-cons (λ x. digests_of (filter test (make x))) r rounds)

-- ---- all of it

-- of a round that it orders of, those are ordered whom it reaches and the leader before doesn't
orders_new : (graph : DagView) → IsGraph graph → (previous : Option Certificate) (leader : ℕ × Author) (high : ℕ) (free : ℕ → ℕ → Bool) (c : Certificate) → Leads graph previous leader high free c
    → (round author : ℕ) (e : Certificate) → lowest_in graph leader.0 ≤ round → round ≤ leader.0 → slots_in graph round author ≡ Some e
    → orders_in graph leader.0 leader.1.0 free round author ≡ is_new_to graph previous c e
orders_new graph is previous leader high free c leads round author e above below held =
    ap (λ b. b && free round author) (reaches_by graph leader.0 leader.1.0 round author c e leads.held held)
    ∙ ap (λ b. reaches (size_in graph) (slots_in graph) c e && b) (leads.unordered round author e above (omega (arith, below, leads.within)) held)

pub segment_is : (graph : DagView) → IsGraph graph → (previous : Option Certificate) (leader : ℕ × Author) (high : ℕ) (free : ℕ → ℕ → Bool)
    (ordered : List MemberSet) (c : Certificate) → Leads graph previous leader high free c
    → (bottom : ℕ) → bottom ≡ lowest_in graph leader.0 → length ordered ≤ leader.0 + 1 - bottom
    → ((place other : ℕ) → place < leader.0 + 1 - bottom → is_in ordered place other ≡ orders_in graph leader.0 leader.1.0 free (leader.0 - place) other)
    → (let first = max (leader.0 + 1 - length ordered) 1 in flat_map (λ r. digests_at graph r (is_in ordered (leader.0 - r)))
    (range_with_len first (leader.0 + 1 - first)) ≡ digests_of (segment (ledger_in graph []) previous c))
segment_is graph is previous leader high free ordered c leads bottom lowest long sets =
    let n = size_in graph in
    let slots = slots_in graph in
    let first = max (leader.0 + 1 - length ordered) 1 in
    let test = is_ordered_by (ledger_in graph []) previous c in
    let make : ℕ → List Digest = λ r. digests_of (filter test (round_of n slots r)) in
    let at = slot_is leader.0 leader.1.0 c.header (is.placed leader.0 leader.1.0 c leads.held) in
    let floor_low = is.above leader.0 leader.1.0 c leads.held in
    let bottom_low : bottom ≤ leader.0 = omega (arith, floor_low, lowest) in
    let least : bottom ≤ first = omega (arith, long, bottom_low) in
    let one : 1 ≤ first = omega arith in
    let same : (r a : ℕ) (e : Certificate) → bottom ≤ r → r ≤ leader.0 → slots r a ≡ Some e → is_in ordered (leader.0 - r) a ≡ is_new_to graph previous c e =
    λ r a e above below held. let level : leader.0 - (leader.0 - r) ≡ r = omega (arith, below) in
    sets (leader.0 - r) a (omega (arith, above, below))
    ∙ ap (λ q. orders_in graph leader.0 leader.1.0 free q a) level
    ∙ orders_new graph is previous leader high free c leads r a e (omega (arith, above, lowest)) below held in
    let here : flat_map (λ r. digests_at graph r (is_in ordered (leader.0 - r))) (range_with_len first (leader.0 + 1 - first)) ≡ flat_map make (range_with_len first (leader.0 + 1 - first)) =
    lists_same (λ r. digests_at graph r (is_in ordered (leader.0 - r))) make first (leader.0 + 1 - first)
    (λ r above below. picked (slots r) (is_in ordered (leader.0 - r)) test (numbers n)
    (λ a e held. let place = slot_is r a e.header (is.placed r a e held) in
    let deep : nat_le c.header.round (e.header.round + graph.charter.depth) ≡ true = le-leb c.header.round (e.header.round + graph.charter.depth)
    (omega (arith, above, least, lowest, at.0, place.0)) in
    same r a e (omega (arith, above, least)) (omega (arith, below)) held
    ∙ sym (ap (λ b. b && is_new_to graph previous c e) deep))) in
    let below_none : flat_map make (range_with_len 1 (first - 1)) ≡ [] =
    lists_none make 1 (first - 1)
    (λ r above below. none_picked (slots r) test (numbers n)
    (λ a e held. let floor_at = is.above r a e held in
    let place = slot_is r a e.header (is.placed r a e held) in
    elim (cases_Bool (nat_le bottom r)) [
      | inl over ↦
          let over' = leb-true bottom r over in
          let past : length ordered ≤ leader.0 - r = omega (arith, below, above, one) in
          let none : is_new_to graph previous c e ≡ false = sym (same r a e over' (omega (arith, below, above, one, past)) held) ∙ past_end ordered (leader.0 - r) a past in
          ap (λ b. nat_le c.header.round (e.header.round + graph.charter.depth) && b) none ∙ and_false (nat_le c.header.round (e.header.round + graph.charter.depth))
      | inr under ↦
          let deep : nat_le c.header.round (e.header.round + graph.charter.depth) ≡ false = grind (arith, under, lowest, at, place, floor_at) in
          ap (λ b. b && is_new_to graph previous c e) deep
    ])) in
    let count : leader.0 ≡ (first - 1) + (leader.0 + 1 - first) = omega arith in
    let from : 1 + (first - 1) ≡ first = omega arith in
    here ∙ ap (λ l. l ++ flat_map make (range_with_len first (leader.0 + 1 - first))) (sym below_none)
    ∙ ap (λ a. flat_map make (range_with_len 1 (first - 1)) ++ flat_map make (range_with_len a (leader.0 + 1 - first))) (sym from)
    ∙ sym (flat_map-append make (range_with_len 1 (first - 1)) (range_with_len (1 + (first - 1)) (leader.0 + 1 - first)))
    ∙ ap (flat_map make) (sym (range_parts 1 (first - 1) (leader.0 + 1 - first)))
    ∙ ap (λ k. flat_map make (range_with_len 1 k)) (sym count ∙ sym at.0)
    ∙ sym (digests_by_round test (round_of n slots) (range_with_len 1 c.header.round))

-- what is read is the references of what passes a test, where that is what a leader orders of the rounds above one, and nothing of the others
pub reads_are : (graph : DagView) → IsGraph graph → (leader : ℕ × Author) (c : Certificate) → slots_in graph leader.0 leader.1.0 ≡ Some c
    → (bottom : ℕ) (free : ℕ → ℕ → Bool) (test : Certificate → Bool) → bottom ≤ leader.0
    → ((r a : ℕ) (e : Certificate) → bottom < r → r ≤ leader.0 → slots_in graph r a ≡ Some e → orders_in graph leader.0 leader.1.0 free r a ≡ test e)
    → ((r a : ℕ) (e : Certificate) → r ≤ bottom → slots_in graph r a ≡ Some e → test e ≡ false)
    → sum_by (λ r. references_of graph r (orders_in graph leader.0 leader.1.0 free r)) (range_with_len (bottom + 1) (leader.0 - bottom))
    ≡ sum_by (λ e. cond (test e) (length e.header.parents) 0) (rounds_to (ledger_in graph []) c.header.round)
reads_are graph is leader c held bottom free test within passes fails =
    let n = size_in graph in
    let slots = slots_in graph in
    let g : Certificate → ℕ = λ e. cond (test e) (length e.header.parents) 0 in
    let f : ℕ → ℕ = λ r. references_of graph r (orders_in graph leader.0 leader.1.0 free r) in
    let all : ℕ → ℕ = λ r. sum_by g (round_of n slots r) in
    let at = slot_is leader.0 leader.1.0 c.header (is.placed leader.0 leader.1.0 c held) in
    let same : sum_by f (range_with_len (bottom + 1) (leader.0 - bottom)) ≡ sum_by all (range_with_len (bottom + 1) (leader.0 - bottom)) =
    sums_same f all (bottom + 1) (leader.0 - bottom)
    (λ r above below. summed (slots r) (λ a. cond (orders_in graph leader.0 leader.1.0 free r a) (references_at graph r a) 0) g (numbers n)
    (λ a e there. ap (λ b. cond b (references_at graph r a) 0) (passes r a e (omega (arith, above)) (omega (arith, below)) there)
    ∙ ap (λ (o : Option Certificate). cond (test e) (option_map_or (λ d. length d.header.parents) o 0) 0) there)
    (λ a none. nothing (orders_in graph leader.0 leader.1.0 free r a) (references_at graph r a) (ap (λ (o : Option Certificate). option_map_or (λ d. length d.header.parents) o 0) none))) in
    let under : sum_by all (range_with_len 1 bottom) ≡ 0 =
    sums_none all 1 bottom
    (λ r above below. sym (summed (slots r) (λ a. 0) g (numbers n)
    (λ a e there. sym (ap (λ b. cond b (length e.header.parents) 0) (fails r a e (omega (arith, below)) there))) (λ a none. refl)) ∙ sum_zero (λ (a : ℕ). 0) (numbers n) (λ a. refl)) in
    let count : c.header.round ≡ bottom + (leader.0 - bottom) = omega (arith, at.0, within) in
    let from : 1 + bottom ≡ bottom + 1 = omega arith in
    let whole : sum_by g (rounds_to (ledger_in graph []) c.header.round) ≡ sum_by all (range_with_len 1 bottom) + sum_by all (range_with_len (bottom + 1) (leader.0 - bottom)) =
    sum_lists g (round_of n slots) (range_with_len 1 c.header.round)
    ∙ ap (λ k. sum_by all (range_with_len 1 k)) count
    ∙ ap (sum_by all) (range_parts 1 bottom (leader.0 - bottom))
    ∙ sum_by-append all (range_with_len 1 bottom) (range_with_len (1 + bottom) (leader.0 - bottom))
    ∙ ap (λ a. sum_by all (range_with_len 1 bottom) + sum_by all (range_with_len a (leader.0 - bottom))) from in
    omega (arith, same, under, whole)
  where
    nothing : (b : Bool) (k : ℕ) → k ≡ 0 → cond b k 0 ≡ 0
    nothing true k none = none
    nothing false k none = refl

-- what is read for a leader is the references of what it orders, but for the lowest round
pub reads_ordered : (graph : DagView) → IsGraph graph → (previous : Option Certificate) (leader : ℕ × Author) (top : ℕ) (free : ℕ → ℕ → Bool) (c : Certificate) → Leads graph previous leader top free c
    → (bottom : ℕ) → bottom ≡ lowest_in graph leader.0
    → sum_by (λ r. references_of graph r (orders_in graph leader.0 leader.1.0 free r)) (range_with_len (bottom + 1) (leader.0 - bottom)) ≡ read_references_in graph previous c
reads_ordered graph is previous leader top free c leads bottom lowest =
    let at = slot_is leader.0 leader.1.0 c.header (is.placed leader.0 leader.1.0 c leads.held) in
    let floor_low = is.above leader.0 leader.1.0 c leads.held in
    let level : bottom ≡ lowest_in graph c.header.round = lowest ∙ ap (lowest_in graph) (sym at.0) in
    reads_are graph is leader c leads.held bottom free (is_read_for graph previous c) (omega (arith, floor_low, lowest))
    (λ r a e above below held. let place = slot_is r a e.header (is.placed r a e held) in
    let deep : nat_le c.header.round (e.header.round + graph.charter.depth) ≡ true = le-leb c.header.round (e.header.round + graph.charter.depth) (omega (arith, above, lowest, at.0, place.0)) in
    let high : nat_lt (lowest_in graph c.header.round) e.header.round ≡ true = lt-ltb (lowest_in graph c.header.round) e.header.round (omega (arith, above, level, place.0)) in
    orders_new graph is previous leader top free c leads r a e (omega (arith, above, lowest)) below held
    ∙ sym (ap (λ b. is_ordered_by (ledger_in graph []) previous c e && b) high ∙ and_true (is_ordered_by (ledger_in graph []) previous c e)
    ∙ ap (λ b. b && is_new_to graph previous c e) deep))
    (λ r a e below held. let place = slot_is r a e.header (is.placed r a e held) in
    let low : nat_lt (lowest_in graph c.header.round) e.header.round ≡ false = grind (arith, below, level, place) in
    ap (λ b. is_ordered_by (ledger_in graph []) previous c e && b) low ∙ and_false (is_ordered_by (ledger_in graph []) previous c e))
  where
    and_true : (b : Bool) → (b && true) ≡ b
    and_true true = refl
    and_true false = refl

-- that is no more than the references of what is new to the leader
pub reads_few : (graph : DagView) (previous : Option Certificate) (c : Certificate) → read_references_in graph previous c ≤ references_in graph previous c
reads_few graph previous c =
    sum_less (λ e. cond (is_read_for graph previous c e) (length e.header.parents) 0)
    (λ e. cond (is_new_to graph previous c e) (length e.header.parents) 0) (rounds_to (ledger_in graph []) c.header.round)
    (λ e. fewer (nat_le c.header.round (e.header.round + graph.charter.depth)) (is_new_to graph previous c e) (nat_lt (lowest_in graph c.header.round) e.header.round) (length e.header.parents))
  where
    fewer : (deep new high : Bool) (k : ℕ) → cond ((deep && new) && high) k 0 ≤ cond new k 0
    fewer true true true k = omega arith
    fewer true true false k = omega arith
    fewer true false high k = omega arith
    fewer false true high k = omega arith
    fewer false false high k = omega arith

-- after a leader those are unordered whom it doesn't reach
pub unordered_next : (graph : DagView) → IsGraph graph → (previous : Option Certificate) (leader : ℕ × Author) (high : ℕ) (free new : ℕ → ℕ → Bool)
    (c : Certificate) → Leads graph previous leader high free c
    → ((round other : ℕ) → lowest_in graph leader.0 ≤ round → round ≤ high → new round other ≡ (free round other && not (reaches_in graph leader.0 leader.1.0 round other)))
    → HasAllOf graph previous c → AreUnordered graph (Some c) (lowest_in graph leader.0) high new
unordered_next graph is previous leader high free new c leads without all round author e from to held =
    let ledger = ledger_in graph [] in
    without round author from to
    ∙ ap (λ b. b && not (reaches_in graph leader.0 leader.1.0 round author)) (leads.unordered round author e from to held)
    ∙ ap (λ b. not (is_past ledger previous e) && not b) (reaches_by graph leader.0 leader.1.0 round author c e leads.held held)
    ∙ left_over (is_past ledger previous e) (reaches (size_in graph) (slots_in graph) c e) (all round author e held)
  where
    left_over : (past reached : Bool) → (past ≡ true → reached ≡ true) → (not past && not reached) ≡ not reached
    left_over true reached so = sym (ap not (so refl))
    left_over false reached so = refl
