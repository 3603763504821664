-- How a DAG keeps its certificates: as rows of entries.
use Rattle.std.specs.Prelude.{◌≡◌, ℕ, ◌+◌, ◌-◌, ◌<◌, ◌≤◌, Bool, true, false, List, map, length, Option, Some, option_map, All}
use Rattle.std.specs.Option.{option_map_or}
use Rattle.wire.specs.declared.round.TheConstants.Round.{MAX}
use Rattle.committee.specs.Charter.{Charter, IsCharter}
use Rattle.spec_model.specs.Holdings.{all_held}
use Rattle.spec_model.specs.Slots.{Slots, certificate_digest, is_of_slot, is_parent}
use Rattle.spec_model.specs.Words.{Certificate}
use Rattle.dag.specs.Graph.{DagView, Placed, row_at, slots_in}
use Rattle.committee.specs.Sets.{has}
use Rattle.dag.specs.declared.entry.Entry.{Entry}

-- the rows of consecutive rounds, that of the floor first; each has a slot for each member
abbrev pub Rows : Type 0
Rows = List (List (Option Entry))

-- the entry of the certificate in a slot
abbrev pub entry_at : ℕ → Rows → ℕ → ℕ → Option Entry
entry_at floor rows round author = row_at floor rows round author

abbrev pub placed_of : Entry → Placed
placed_of entry = record { certificate = entry.certificate; marked = entry.marked }

-- the DAG that contracts see for these rows
abbrev pub graph_of : Charter → ℕ → ℕ → Rows → DagView
graph_of charter floor base rows =
    record { charter = charter; floor = floor; base = base; rounds = map (λ row. map (option_map placed_of) row) rows }

-- the certificate has this author's certificate of the round below as a parent
abbrev pub has_below : Slots → Certificate → ℕ → Bool
has_below slots certificate author = option_map_or (λ c. is_parent c certificate) (slots (certificate.header.round - 1) author) false

-- an entry is well formed: its certificate is of this slot, has the entry's digest, and has all its parents held. Above the floor the
-- entry's set has exactly the authors of these parents
pub record IsEntry (graph : DagView) (round author : ℕ) (entry : Entry) : Type 0 where
  pub place : is_of_slot round author entry.certificate.header ≡ true
  pub digest : entry.digest ≡ certificate_digest entry.certificate.header
  pub held : all_held (slots_in graph) graph.floor entry.certificate.header ≡ true
  pub parents : graph.floor < round → (other : ℕ) → has entry.parents other ≡ has_below (slots_in graph) entry.certificate other

-- the rows are well formed: each has a slot for each member, no round is past the greatest one, and each entry is well formed
pub record IsKept (charter : Charter) (floor base : ℕ) (rows : Rows) : Type 0 where
  pub valid : IsCharter charter
  pub low : floor < base
  pub within : base ≤ MAX
  pub few : floor + length rows ≤ MAX + 1
  pub full : All (λ row. length row ≡ length charter.keys) rows
  pub entries : (round author : ℕ) (entry : Entry) → entry_at floor rows round author ≡ Some entry → IsEntry (graph_of charter floor base rows) round author entry
