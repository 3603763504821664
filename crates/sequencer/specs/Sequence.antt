-- The parts of a sequencer, and when they agree with a node's state.
use Rattle.std.specs.Prelude.{◌≡◌, ◌<◌, ℕ, ◌+◌, ◌-◌, ◌/◌, max, List, [], length, slice_get, Option, Some, None, option_map}
use Rattle.std.specs.Option.{option_map_or}
use Rattle.spec_model.specs.Nodes.{Node}
use Rattle.spec_model.specs.Ordering.{is_past, segments}
use Rattle.spec_model.specs.States.{State, ledger_in, floor_in}
use Rattle.spec_model.specs.Words.{Author, Certificate, Digest, Event}
use Rattle.spec_machine.specs.Laws.{Comes}
use Rattle.spec_machine.specs.Machine.{grown, last_leader, newly_ordered}
use Rattle.dag.specs.Changes.{IsDropped}
use Rattle.dag.specs.Graph.{DagView, IsGraph, slots_in, marked_in}
use Rattle.tusk.specs.Chain.{slot_of}
use Rattle.tusk.specs.Chain as chain
use Rattle.flatten.specs.Lengthening.{LengtheningView, FitsTo}
use Rattle.flatten.specs.Segments.{leader_held, digests_of, leaders_in, AreLinked, IsMarkedPast, IsMarkedFor}
use Rattle.sequencer.specs.declared.prepared.Prepared.{Prepared}

-- what contracts see of a sequencer: the certificates as a DAG, the coins, the round and author of the last committed leader, and the order
pub record SequencerView : Type 0 where
  pub graph : DagView
  pub coins : List ℕ
  pub last : Option (ℕ × Author)
  pub order : List Digest

-- A sequencer agrees with a state: it has the state's certificates, coins, order and last committed leader; and what that leader reaches is
-- marked.
pub record IsAt (node : Node) (state : State) (sequence : SequencerView) : Type 0 where
  pub charter : sequence.graph.charter ≡ node.charter
  pub slots : slots_in sequence.graph ≡ state.slots
  pub coins : sequence.coins ≡ state.coins
  pub order : sequence.order ≡ state.order
  pub floor : sequence.graph.floor ≡ floor_in node state
  pub last : sequence.last ≡ option_map slot_of (last_leader (ledger_in node state))
  pub base : sequence.graph.base ≡ option_map_or (λ (slot : ℕ × Author). slot.0) sequence.last 1
  pub marked : (round author : ℕ) (c : Certificate) → slots_in sequence.graph round author ≡ Some c
      → marked_in sequence.graph round author ≡ is_past (ledger_in node state) (last_leader (ledger_in node state)) c

-- the wave of a leader, given the leader's round and author
abbrev pub wave_in : Option (ℕ × Author) → Option ℕ
wave_in last = option_map (λ slot. (slot.0 + 1) / 2) last

-- a sequencer agrees with a sound state, and this event is new there
pub record ComesTo (node : Node) (state : State) (event : Event) (sequence : SequencerView) : Type 0 where
  pub comes : Comes node state event
  pub at : IsAt node state sequence

-- the digests that were prepared, so that a commit can add them to the order
abbrev pub prepared_digests : Prepared → List Digest
prepared_digests prepared = option_map_or (λ (made : LengtheningView). made.digests) prepared.committed []

-- what was prepared is what the event adds to the order: its digests, and the marks that the newly committed leaders set
pub record IsPrepared (node : Node) (state : State) (event : Event) (sequence : SequencerView) (prepared : Prepared) : Type 0 where
  pub digests : prepared_digests prepared ≡ newly_ordered (ledger_in node state) (ledger_in node (grown node state event.message))
  pub last : option_map slot_of (last_leader (ledger_in node (grown node state event.message)))
      ≡ option_map_or (λ (made : LengtheningView). Some made.last) prepared.committed sequence.last
  pub made : (made : LengtheningView) → prepared.committed ≡ Some made → FitsTo sequence.graph made
  pub newer : (made : LengtheningView) → prepared.committed ≡ Some made → option_map_or (λ (slot : ℕ × Author). slot.0) sequence.last 0 < made.last.0

-- ---- a commit

-- A DAG after leaders were committed: what they reach is marked, the base is at least the last leader's round, and all certificates more
-- than the depth below that leader are dropped.
pub record IsCommitted (before after : DagView) (made : LengtheningView) : Type 0 where
  pub marked : DagView
  pub sound : IsGraph marked
  pub charter : marked.charter ≡ before.charter
  pub floor : marked.floor ≡ before.floor
  pub base : marked.base ≡ max before.base made.last.0
  pub slots : (round author : ℕ) → slots_in marked round author ≡ slots_in before round author
  pub marks : FitsTo before made → IsMarkedPast marked (made.last.0 - before.charter.depth) (leader_held marked (Some made.last))
  pub dropped : IsDropped marked after (made.last.0 - before.charter.depth)

-- the DAG and the last committed leader after a commit. If no leader was committed, both are unchanged
abbrev pub CommitsTo : DagView → Option (ℕ × Author) → Option LengtheningView → DagView → Option (ℕ × Author) → Type 0
CommitsTo before last None after new_last = (after ≡ before) × (new_last ≡ last)
CommitsTo before last (Some made) after new_last = IsCommitted before after made × (new_last ≡ Some made.last)

-- ---- what is prepared for a chain of leaders

-- what was prepared for the leaders of these rounds and authors, which come after the last committed leader
pub record IsMadeOfAll (graph : DagView) (last : Option (ℕ × Author)) (slots : List (ℕ × Author)) (made : LengtheningView) : Type 0 where
  pub digests : (coins : List ℕ) → AreLinked graph last slots → IsMarkedFor graph last slots
      → made.digests ≡ digests_of (segments (chain.ledger_in graph coins) (leader_held graph last) (leaders_in graph slots))
  pub last_slot : slice_get slots (length slots - 1) ≡ Some made.last
  pub of : AreLinked graph last slots → IsMarkedFor graph last slots → FitsTo graph made

-- what was prepared for a chain of leaders; for no leaders, nothing is
abbrev pub IsMadeOf : DagView → Option (ℕ × Author) → List (ℕ × Author) → Option LengtheningView → Type 0
IsMadeOf graph last slots None = slots ≡ []
IsMadeOf graph last slots (Some made) = IsMadeOfAll graph last slots made
