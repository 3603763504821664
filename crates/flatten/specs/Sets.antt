-- Sets of authors, one for each round; they say which certificates are taken.
use Rattle.std.specs.Prelude.{◌≡◌, ℕ, ◌+◌, ◌-◌, ◌<◌, ◌≤◌, ◌&&◌, not, Bool, true, false, max, List, [], filter_map, Option, Some, None, is_some, slice_get, if◌then◌else◌}
use Rattle.std.specs.Option.{option_map_or}
use Rattle.committee.specs.Charter.{numbers}
use Rattle.committee.specs.Sets.{has}
use Rattle.committee.specs.declared.sets.MemberSet.{MemberSet}
use Rattle.spec_model.specs.Ordering.{is_past}
use Rattle.spec_model.specs.Words.{Author, Certificate, Digest}
use Rattle.tusk.specs.Chain.{ledger_in}
use Rattle.dag.specs.Graph.{DagView, slots_in, marked_in, size_in, digest_in, has_parent_in, reaches_in}

-- the set at this place has this author
abbrev pub is_in : List MemberSet → ℕ → ℕ → Bool
is_in sets place author = option_map_or (λ set. has set author) (slice_get sets place) false

-- there is a certificate of this round and author, and it isn't marked
abbrev pub is_unmarked_in : DagView → ℕ → ℕ → Bool
is_unmarked_in graph round author = is_some (slots_in graph round author) && not (marked_in graph round author)

-- The certificate of this round and author is free: it isn't marked, and not taken, which means that its author isn't in the set of its
-- round. The first set is that of the round `top`, the next that of the round below, and so on
abbrev pub is_free : DagView → ℕ → List MemberSet → ℕ → ℕ → Bool
is_free graph top taken round author = is_unmarked_in graph round author && not (is_in taken (top - round) author)

-- the digests of the certificates of a round whose authors pass a test, sorted by author
abbrev pub digests_at : DagView → ℕ → (ℕ → Bool) → List Digest
digests_at graph round passes = filter_map (λ author. if passes author then digest_in graph round author else None) (numbers (size_in graph))

-- a leader orders the certificate of this round and author: it reaches it, and it is free
abbrev pub orders_in : DagView → ℕ → ℕ → (ℕ → ℕ → Bool) → ℕ → ℕ → Bool
orders_in graph leader leader_author free round author = reaches_in graph leader leader_author round author && free round author

-- the lowest round of which a leader orders certificates: `depth` below its own round, or the floor if that is higher
abbrev pub lowest_in : DagView → ℕ → ℕ
lowest_in graph round = max graph.floor (round - graph.charter.depth)

-- in these rounds each certificate that has a free parent is free itself
abbrev pub AreClosed : DagView → ℕ → ℕ → (ℕ → ℕ → Bool) → Type 0
AreClosed graph from high free = (round author other : ℕ) → from ≤ round → round < high
    → free round other ≡ true → has_parent_in graph (round + 1) author round other ≡ true → free (round + 1) author ≡ true

-- in these rounds exactly the certificates that the leader before doesn't reach are free
abbrev pub AreUnordered : DagView → Option Certificate → ℕ → ℕ → (ℕ → ℕ → Bool) → Type 0
AreUnordered graph previous from high free = (round author : ℕ) (c : Certificate) → from ≤ round → round ≤ high → slots_in graph round author ≡ Some c
    → free round author ≡ not (is_past (ledger_in graph []) previous c)

-- A leader is in the DAG, at or below the round `high`. From the lowest round of which it orders certificates up to `high`, exactly the
-- certificates are free that the leader before doesn't reach.
pub record Leads (graph : DagView) (previous : Option Certificate) (leader : ℕ × Author) (high : ℕ) (free : ℕ → ℕ → Bool) (c : Certificate) : Type 0 where
  pub held : slots_in graph leader.0 leader.1.0 ≡ Some c
  pub within : leader.0 ≤ high
  pub unordered : AreUnordered graph previous (lowest_in graph leader.0) high free

-- a leader reaches all that the leader before it reaches
abbrev pub HasAllOf : DagView → Option Certificate → Certificate → Type 0
HasAllOf graph previous leader = (round author : ℕ) (c : Certificate) → slots_in graph round author ≡ Some c → is_past (ledger_in graph []) previous c
    ≡ true → is_past (ledger_in graph []) (Some leader) c ≡ true

-- there is a leader, and it reaches the certificate of this round and author
abbrev pub is_past_in : DagView → Option (ℕ × Author) → ℕ → ℕ → Bool
is_past_in graph leader round author = option_map_or (λ (slot : ℕ × Author). reaches_in graph slot.0 slot.1.0 round author) leader false

-- a leader, if it is in the DAG, is at or below the round `high`; and from the round `low` up to `high`, each certificate that has a free
-- parent is free
pub record IsTakenFrom (graph : DagView) (leader : Option (ℕ × Author)) (low high : ℕ) (free : ℕ → ℕ → Bool) : Type 0 where
  pub within : (slot : ℕ × Author) → leader ≡ Some slot → is_some (slots_in graph slot.0 slot.1.0) ≡ true → slot.0 ≤ high
  pub closed : AreClosed graph low high free
