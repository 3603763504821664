-- The parts from which a sequencer is restored.
use Rattle.std.specs.Prelude.{◌≡◌, ℕ, ◌+◌, ◌<◌, ◌≤◌, ◌==◌, ◌&&◌, ◌||◌, nat_lt, max, Bool, true, false, List, All, AllPairs, map, length, Option, Some, None, option_map, if◌then◌else◌}
use Rattle.std.specs.Option.{option_or}
use Rattle.committee.specs.Charter.{Charter, numbers}
use Rattle.spec_machine.specs.Machine.{last_leader}
use Rattle.spec_machine.specs.Sound.{IsSound}
use Rattle.spec_model.specs.Holdings.{genesis, all_held}
use Rattle.spec_model.specs.Nodes.{Node, IsNode}
use Rattle.spec_model.specs.Slots.{Slots, certificate_digest, slots_of}
use Rattle.spec_model.specs.States.{State, ledger_in, floor_in}
use Rattle.spec_model.specs.Words.{Author, Certificate, Digest}
use Rattle.dag.specs.Graph.{DagView, size_in, slots_in, marked_in, end_in}
use Rattle.tusk.specs.Chain.{slot_of}
use Rattle.flatten.specs.Lengthening.{LengtheningView, FitsTo}
use Rattle.sequencer.specs.Sequence.{SequencerView, IsCommitted}

-- a certificate together with its digest
abbrev pub Digested : Type 0
Digested = Certificate × Digest

-- the certificate of each round and author, by a list of certificates
abbrev pub listed : List Digested → Slots
listed held = slots_of (map (λ (one : Digested). one.0) held)

-- one certificate comes before another in a sorted list: its round is lower, or it is equal and its author is lower
abbrev pub is_before : Digested → Digested → Bool
is_before one other =
    nat_lt one.0.header.round other.0.header.round
    || ((one.0.header.round == other.0.header.round) && nat_lt one.0.header.author.0 other.0.header.author.0)

-- certificates of rounds above 0 with their digests, sorted by round and then by author
pub record AreListed (held : List Digested) : Type 0 where
  pub rising : AllPairs (λ one other. is_before one other ≡ true) held
  pub positive : All (λ one. 0 < one.0.header.round) held
  pub digested : All (λ one. one.1 ≡ certificate_digest one.0.header) held

-- in rounds above 0, a table of certificates has just those of this list
abbrev pub HoldsListed : Slots → List Digested → Type 0
HoldsListed slots held = (round author : ℕ) → 0 < round → slots round author ≡ listed held round author

-- The parts from which a sequencer is restored: the committee, the floor, the round and author of the last committed leader, the
-- certificates of rounds above 0, the coins, and the order.
pub record Parts : Type 0 where
  pub charter : Charter
  pub floor : ℕ
  pub last : Option (ℕ × Author)
  pub held : List Digested
  pub coins : List ℕ
  pub order : List Digest

-- these parts are those of a sound state of this node
pub record ArePartsOf (node : Node) (state : State) (parts : Parts) : Type 0 where
  pub node_is : IsNode node
  pub sound : IsSound node state
  pub charter : parts.charter ≡ node.charter
  pub floor : parts.floor ≡ floor_in node state
  pub last : parts.last ≡ option_map slot_of (last_leader (ledger_in node state))
  pub listed : AreListed parts.held
  pub held : HoldsListed state.slots parts.held
  pub coins : parts.coins ≡ state.coins
  pub order : parts.order ≡ state.order

-- these parts are those of some sound state of some node
abbrev pub AreParts : Parts → Type 0
AreParts parts = (node : Node) × (state : State) × ArePartsOf node state parts

-- ---- a DAG is filled with certificates

-- a DAG with this floor has no certificates except, at floor 0, those of the genesis
pub record IsEmpty (members : Charter) (low : ℕ) (graph : DagView) : Type 0 where
  pub charter : graph.charter ≡ members
  pub floor : graph.floor ≡ low
  pub base : graph.base ≡ low + 1
  pub slots : (round author : ℕ) → slots_in graph round author ≡ (if low == 0 then slots_of (map genesis (numbers (length members.keys))) round author else None)
  pub marked : (round author : ℕ) → marked_in graph round author ≡ false
  pub end : end_in graph ≡ max low 1

-- the certificate of each round and author in a DAG, after those of a list were added
abbrev pub with_listed : DagView → List Digested → Slots
with_listed graph held round author = option_or (slots_in graph round author) (listed held round author)

-- The certificates of a list can be added to a DAG one after the other: it has none of their rounds yet, and the parents of each are in the
-- DAG or in the list.
pub record CanEnter (graph : DagView) (held : List Digested) : Type 0 where
  pub listed : AreListed held
  pub members : All (λ one. one.0.header.author.0 < size_in graph) held
  pub named : All (λ one. 0 < length one.0.header.parents) held
  pub above : All (λ one. graph.floor ≤ one.0.header.round) held
  pub later : All (λ one. end_in graph ≤ one.0.header.round) held
  pub parents : All (λ one. all_held (with_listed graph held) graph.floor one.0.header ≡ true) held

-- the certificates of a list were added to the DAG; none of them is marked
pub record HaveEntered (before after : DagView) (held : List Digested) : Type 0 where
  pub charter : after.charter ≡ before.charter
  pub floor : after.floor ≡ before.floor
  pub base : after.base ≡ before.base
  pub slots : (round author : ℕ) → slots_in after round author ≡ with_listed before held round author
  pub marked : (round author : ℕ) → marked_in after round author ≡ marked_in before round author

-- ---- which certificates are marked: those that the last committed leader reaches

-- the sequencer has no last committed leader, and none of its certificates is marked
pub record HasNoMarks (sequence : SequencerView) : Type 0 where
  pub last : sequence.last ≡ None
  pub marked : (round author : ℕ) → marked_in sequence.graph round author ≡ false

-- this leader was committed as the first one: the certificates that it reaches are marked now; coins and order are unchanged
pub record IsMarkedBy (before after : SequencerView) (leader : ℕ × Author) : Type 0 where
  pub made : LengtheningView
  pub of : made.last ≡ leader
  pub fits : FitsTo before.graph made
  pub graph : IsCommitted before.graph after.graph made
  pub last : after.last ≡ Some leader
  pub coins : after.coins ≡ before.coins
  pub order : after.order ≡ before.order

-- the last committed leader, if there is one, was committed like this; without one nothing has changed
abbrev pub IsMarkedTo : SequencerView → SequencerView → Option (ℕ × Author) → Type 0
IsMarkedTo before after None = after ≡ before
IsMarkedTo before after (Some leader) = IsMarkedBy before after leader
