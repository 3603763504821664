-- What a DAG holds, and what holds of every DAG.
use Rattle.std.specs.Prelude.{◌≡◌, ℕ, ◌+◌, ◌-◌, ◌<◌, ◌≤◌, ◌&&◌, cond, nat_le, Bool, true, false, List, All, map, length, count_by, sum_by, Option, Some}
use Rattle.std.specs.Prelude.{None, is_some, option_map, option_and_then, slice_get, if◌then◌else◌}
use Rattle.std.specs.List.{list_any, filter_map, flat_map}
use Rattle.std.specs.Option.{option_map_or}
use Rattle.wire.specs.declared.round.TheConstants.Round.{MAX}
use Rattle.committee.specs.Charter.{Charter, IsCharter, numbers, weight}
use Rattle.spec_model.specs.Holdings.{all_held}
use Rattle.spec_model.specs.Slots.{Slots, certificate_digest, is_of_slot, is_parent, reaches}
use Rattle.spec_model.specs.Words.{Author, Certificate, Digest, ParentReference}

-- the certificate of a slot, and its mark: whether a committed leader reaches it
pub record Placed : Type 0 where
  pub certificate : Certificate
  pub marked : Bool

-- a DAG: the committee; the floor, which is the lowest round that is kept; the base, which is the round of the last committed leader, or 1
-- where no leader is committed; and for each round from the floor on what the members' slots hold
pub record DagView : Type 0 where
  pub charter : Charter
  pub floor : ℕ
  pub base : ℕ
  pub rounds : List (List (Option Placed))

-- how many members the committee has
abbrev pub size_in : DagView → ℕ
size_in graph = length graph.charter.keys

-- the entry of this round and author, in rows of which the first is that of the floor
abbrev pub row_at : {X : Type 0} → ℕ → List (List (Option X)) → ℕ → ℕ → Option X
row_at floor rounds round author =
    if nat_le floor round then option_and_then (λ row. option_and_then (λ held. held) (slice_get row author)) (slice_get rounds (round - floor)) else None

-- the certificate in a slot, with its mark
abbrev pub placed_at : DagView → ℕ → ℕ → Option Placed
placed_at graph round author = row_at graph.floor graph.rounds round author

-- the certificate in each slot
abbrev pub slots_in : DagView → Slots
slots_in graph round author = option_map (λ placed. placed.certificate) (placed_at graph round author)

-- the certificate in a slot is marked
abbrev pub marked_in : DagView → ℕ → ℕ → Bool
marked_in graph round author = option_map_or (λ placed. placed.marked) (placed_at graph round author) false

-- the entries of a row: what its slots hold, in the order of the authors
abbrev pub held_in : {X : Type 0} → List (Option X) → List X
held_in row = filter_map (λ slot. slot) row

-- the certificates of the DAG, sorted by round and then author
abbrev pub certificates_in : DagView → List Certificate
certificates_in graph = map (λ placed. placed.certificate) (flat_map held_in graph.rounds)

-- the round after the last row
abbrev pub end_in : DagView → ℕ
end_in graph = graph.floor + length graph.rounds

-- how many certificates of a round are held
abbrev pub count_in : DagView → ℕ → ℕ
count_in graph round = option_map_or (λ row. count_by is_some row) (if nat_le graph.floor round then slice_get graph.rounds (round - graph.floor) else None) 0

-- the weight of the authors who have certificates of a round
abbrev pub stake_in : DagView → ℕ → ℕ
stake_in graph round = weight graph.charter (λ author. is_some (slots_in graph round author))

-- the digest of the certificate in a slot
abbrev pub digest_in : DagView → ℕ → ℕ → Option Digest
digest_in graph round author = option_map (λ c. certificate_digest c.header) (slots_in graph round author)

-- the parent at this place in the certificate of a slot, by author and digest
abbrev pub parent_in : DagView → ℕ → ℕ → ℕ → Option (Author × Digest)
parent_in graph round author place =
    option_and_then (λ c. option_map (λ (parent : ParentReference). (parent.author, parent.certificate)) (slice_get c.header.parents place)) (slots_in graph round author)

-- the certificate in one slot has the certificate in another slot as a parent
abbrev pub has_parent_in : DagView → ℕ → ℕ → ℕ → ℕ → Bool
has_parent_in graph round author below parent =
    option_map_or (λ child. option_map_or (λ c. is_parent c child) (slots_in graph below parent) false) (slots_in graph round author) false

-- the certificate in one slot reaches the certificate in another slot
abbrev pub reaches_in : DagView → ℕ → ℕ → ℕ → ℕ → Bool
reaches_in graph round author below other =
    option_map_or (λ start. option_map_or (reaches (size_in graph) (slots_in graph) start) (slots_in graph below other) false) (slots_in graph round author) false

-- some certificate of this round, by an author for whom `passes` holds, has the certificate in this slot of the round below as a parent
abbrev pub is_parent_of : DagView → ℕ → ℕ → (ℕ → Bool) → ℕ → Bool
is_parent_of graph round below passes other =
    list_any (λ author. passes author && has_parent_in graph round author below other) (numbers (size_in graph))

-- how many references to parents the certificate in a slot has
abbrev pub references_at : DagView → ℕ → ℕ → ℕ
references_at graph round author = option_map_or (λ c. length c.header.parents) (slots_in graph round author) 0

-- how many references to parents the certificates of a round have that are by authors for whom `passes` holds
abbrev pub references_of : DagView → ℕ → (ℕ → Bool) → ℕ
references_of graph round passes = sum_by (λ author. cond (passes author) (references_at graph round author) 0) (numbers (size_in graph))

-- ---- the invariant of every DAG

-- the committee of a DAG is sound, and the floor is below the base; no row is past the greatest round, and each has a slot for each member;
-- each certificate is in its slot, is of a member, is at or above the floor, and has its parents held
pub record IsGraph (graph : DagView) : Type 0 where
  pub charter : IsCharter graph.charter
  pub low : graph.floor < graph.base
  pub within : graph.base ≤ MAX
  pub few : end_in graph ≤ MAX + 1
  pub full : All (λ row. length row ≡ size_in graph) graph.rounds
  pub placed : (round author : ℕ) (c : Certificate) → slots_in graph round author ≡ Some c → is_of_slot round author c.header ≡ true
  pub above : (round author : ℕ) (c : Certificate) → slots_in graph round author ≡ Some c → graph.floor ≤ round
  pub of_members : (round author : ℕ) (c : Certificate) → slots_in graph round author ≡ Some c → author < size_in graph
  pub held : (round author : ℕ) (c : Certificate) → slots_in graph round author ≡ Some c → all_held (slots_in graph) graph.floor c.header ≡ true
