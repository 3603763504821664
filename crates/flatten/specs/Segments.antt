-- Which certificates of a DAG the leaders order.
use Rattle.std.specs.Prelude.{◌≡◌, ℕ, ◌+◌, ◌-◌, ◌≤◌, ◌&&◌, nat_lt, not, cond, Bool, true, List, [], ◌∷◌, map, length, filter_map, sum_by, Option, Some, is_some, option_and_then}
use Rattle.std.specs.Option.{option_map_or}
use Rattle.spec_model.specs.Ordering.{is_past, is_ordered_by, rounds_to}
use Rattle.spec_model.specs.Ordering as ordering
use Rattle.spec_model.specs.Slots.{certificate_digest}
use Rattle.spec_model.specs.Words.{Author, Certificate, Digest}
use Rattle.dag.specs.Graph.{DagView, slots_in, marked_in, has_parent_in, reaches_in}
use Rattle.tusk.specs.Chain.{ledger_in}
use Rattle.flatten.specs.Sets.{lowest_in}

-- the leader's certificate, given its round and author; None if there is no leader, or the certificate isn't there
abbrev pub leader_held : DagView → Option (ℕ × Author) → Option Certificate
leader_held graph slot = option_and_then (λ s. slots_in graph s.0 s.1.0) slot

-- from this round on, exactly the certificates that a leader reaches are marked; no coin plays a part in this
abbrev pub IsMarkedPast : DagView → ℕ → Option Certificate → Type 0
IsMarkedPast graph low previous = (round author : ℕ) (c : Certificate) → low ≤ round → slots_in graph round author ≡ Some c
    → marked_in graph round author ≡ is_past (ledger_in graph []) previous c

-- from this round on, each marked certificate is one that a leader reaches, and its parents are marked too
pub record IsMarkedBefore (graph : DagView) (low : ℕ) (previous : Option Certificate) : Type 0 where
  pub past : (round author : ℕ) (c : Certificate) → low ≤ round → slots_in graph round author ≡ Some c → marked_in graph round author ≡ true
      → is_past (ledger_in graph []) previous c ≡ true
  pub closed : (round author other : ℕ) → low ≤ round → marked_in graph (round + 1) author ≡ true → has_parent_in graph (round + 1) author round other ≡ true
      → marked_in graph round other ≡ true

-- a leader reaches this certificate, and the leader before it doesn't
abbrev pub is_new_to : DagView → Option Certificate → Certificate → Certificate → Bool
is_new_to graph previous leader certificate =
    ordering.reaches_in (ledger_in graph []) leader certificate && not (is_past (ledger_in graph []) previous certificate)

-- how many references to parents there are in the certificates that a leader reaches and the leader before it doesn't
abbrev pub references_in : DagView → Option Certificate → Certificate → ℕ
references_in graph previous leader =
    sum_by (λ c. cond (is_new_to graph previous leader c) (length c.header.parents) 0) (rounds_to (ledger_in graph []) leader.header.round)

-- the parents of this certificate are read for a leader: the leader orders it, and its round isn't the lowest of those of which it orders
-- any
abbrev pub is_read_for : DagView → Option Certificate → Certificate → Certificate → Bool
is_read_for graph previous leader certificate =
    is_ordered_by (ledger_in graph []) previous leader certificate && nat_lt (lowest_in graph leader.header.round) certificate.header.round

-- how many references to parents are read for a leader: those in the certificates that it orders, each once, except in the lowest round of
-- which it orders any
abbrev pub read_references_in : DagView → Option Certificate → Certificate → ℕ
read_references_in graph previous leader =
    sum_by (λ c. cond (is_read_for graph previous leader c) (length c.header.parents) 0) (rounds_to (ledger_in graph []) leader.header.round)

-- whether a leader reaches this certificate along references to parents, the certificate's round is above the given one, and it isn't
-- marked
abbrev pub is_unmarked_past : DagView → ℕ → Option Certificate → Certificate → Bool
is_unmarked_past graph low leader certificate =
    nat_lt low certificate.header.round && (is_past (ledger_in graph []) leader certificate && not (marked_in graph certificate.header.round certificate.header.author.0))

-- how many references to parents there are in the certificates above a round that a leader reaches and that aren't marked
abbrev pub unmarked_references_in : DagView → ℕ → Option Certificate → ℕ
unmarked_references_in graph low leader =
    option_map_or (λ c. sum_by (λ d. cond (is_unmarked_past graph low leader d) (length d.header.parents) 0) (rounds_to (ledger_in graph []) c.header.round)) leader 0

-- the digests of these certificates
abbrev pub digests_of : List Certificate → List Digest
digests_of certificates = map (λ c. certificate_digest c.header) certificates

-- ---- several leaders

-- the certificates of these leaders, given their rounds and authors
abbrev pub leaders_in : DagView → List (ℕ × Author) → List Certificate
leaders_in graph slots = filter_map (λ slot. slots_in graph slot.0 slot.1.0) slots

-- how many references to parents there are in the certificates that these leaders reach; each leader counts those that the leader before it
-- doesn't reach
abbrev pub references_by : DagView → Option Certificate → List Certificate → ℕ
references_by graph previous [] = 0
references_by graph previous (leader ∷ leaders) = references_in graph previous leader + references_by graph (Some leader) leaders

-- how many references to parents are read for all these leaders
abbrev pub read_references_by : DagView → Option Certificate → List Certificate → ℕ
read_references_by graph previous [] = 0
read_references_by graph previous (leader ∷ leaders) = read_references_in graph previous leader + read_references_by graph (Some leader) leaders

-- leaders are a chain, oldest first: each is in the DAG, and reaches the one before it
abbrev pub AreLinked : DagView → Option (ℕ × Author) → List (ℕ × Author) → Type 0
AreLinked graph previous [] = Unit {0}
AreLinked graph previous (leader ∷ leaders) =
    (is_some (slots_in graph leader.0 leader.1.0) ≡ true)
    × (option_map_or (λ (before : ℕ × Author). reaches_in graph leader.0 leader.1.0 before.0 before.1.0) previous true ≡ true)
    × AreLinked graph (Some leader) leaders

-- of the certificates that the first of these leaders may order, exactly those that the leader before it reaches are marked
abbrev pub IsMarkedFor : DagView → Option (ℕ × Author) → List (ℕ × Author) → Type 0
IsMarkedFor graph previous [] = Unit {0}
IsMarkedFor graph previous (first ∷ leaders) = IsMarkedPast graph (first.0 - graph.charter.depth) (leader_held graph previous)
