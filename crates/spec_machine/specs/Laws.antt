-- Laws that tie the state machine of a node to the definitions over histories.
use Rattle.std.specs.Prelude.{◌≡◌, ◌<◌, ◌≤◌, ◌⊎◌, ℕ, Bool, not, true, false, IsTrue, List, [], ◌∷◌, ◌++◌, ◌+◌, length, drop, filter, flat_map, nat_lt, nat_le, ⊤, Option, Some, None, if◌then◌else◌}
use Rattle.wire.specs.declared.limits.TheConstants.{MAX_ORDER_DIGESTS}
use Rattle.wire.specs.declared.output.Output.TheVariants as output
use Rattle.spec_laws.specs.Laws.{HoldsFrom, SayTheSame, ordered_since, own_event}
use Rattle.spec_model.specs.Admitting.{admit, is_new, order_outputs, header_outputs, IsTaken, IsLegal}
use Rattle.spec_model.specs.Giving.{kept}
use Rattle.spec_model.specs.Histories.{History, batches, coins}
use Rattle.wire.specs.Lists.{Begins}
use Rattle.spec_model.specs.Holdings.{floor, round, is_low, has_acked, voted_digest, voted_header, counted_at, slots, ledger_of}
use Rattle.spec_model.specs.Nodes.{Node, IsNode}
use Rattle.spec_model.specs.Ordering.{last_wave}
use Rattle.spec_model.specs.Proposing.{propose}
use Rattle.spec_model.specs.Slots.{Slots}
use Rattle.spec_model.specs.States.{State, ledger_in, floor_in}
use Rattle.spec_model.specs.Words.{Certificate, Digest, Event, Header, Output, Vote}
use Rattle.header.specs.declared.admission.Admission.TheVariants.{New}
use Rattle.spec_machine.specs.Machine.{slots_with, grown, after, answered, fresh, is_missing_parents, is_ready, proposed, round_in}
use Rattle.spec_machine.specs.Sound.{IsSound}

-- the state kept of the empty history is the fresh state
abbrev pub StartsFresh : Type 0
StartsFresh = (node : Node) → kept node [] ≡ fresh node

-- the state kept of a legal history with one more event is the state that the machine reaches by that event
abbrev pub StateFollows : Type 0
StateFollows = (node : Node) (history : History) (event : Event) → IsLegal node (history ++ event ∷ [])
    → kept node (history ++ event ∷ []) ≡ after node (kept node history) event

-- the machine at the state kept of a legal history answers each event as the history does
abbrev pub StateAnswers : Type 0
StateAnswers = (node : Node) (history : History) (event : Event) → IsLegal node history → IsTaken node event
    → admit node history event ≡ answered node (kept node history) event

-- the machine at the state kept of a legal history says whether an event would lack parents, as the history does
abbrev pub StateIsReady : Type 0
StateIsReady = (node : Node) (history : History) (event : Event) → IsLegal node history → IsTaken node event
    → is_ready node (kept node history) event ≡ not (is_missing_parents (admit node history event))

-- the state kept of a legal history has the floor and the round of the history, and the node proposes the same header at both
pub record IsProposedBy (node : Node) (history : History) : Type 0 where
  pub floor : floor_in node (kept node history) ≡ floor node history
  pub round : round_in node (kept node history) ≡ round node history
  pub proposed : proposed node (kept node history) ≡ propose node history

abbrev pub StateProposes : Type 0
StateProposes = (node : Node) (history : History) → IsLegal node history → IsProposedBy node history

-- ---- what follows for two histories

-- All that admission reads of a history is the same in both: the batches and who acknowledged them, the votes, the own headers and the
-- votes on them, the certificates, and the coins.
pub record AreAlike (node : Node) (one other : History) : Type 0 where
  pub same_batches : batches one ≡ batches other
  pub same_acks : (digest : Digest) (member : ℕ) → has_acked one digest member ≡ has_acked other digest member
  pub same_votes : (round author : ℕ) → voted_digest one round author ≡ voted_digest other round author
  pub same_headers : (round : ℕ) → voted_header one round node.own.0 ≡ voted_header other round node.own.0
  pub same_counted : (round voter : ℕ) → counted_at node one round voter ≡ counted_at node other round voter
  pub same_slots : (round author : ℕ) → slots node one round author ≡ slots node other round author
  pub same_coins : coins one ≡ coins other

-- two legal histories that are alike in this answer each event alike
abbrev pub AnswersAlike : Type 0
AnswersAlike = (node : Node) (one other : History) (event : Event) → IsLegal node one → IsLegal node other → IsTaken node event
    → AreAlike node one other → admit node one event ≡ admit node other event

-- two histories keep the same state, except perhaps for the greatest round of a certificate
abbrev pub KeepSame : Node → History → History → Type 0
KeepSame node one other = record (kept node one) { highest = 0 } ≡ record (kept node other) { highest = 0 }

-- two legal histories that keep the same state answer each event alike
abbrev pub KeptDecides : Type 0
KeptDecides = (node : Node) (one other : History) (event : Event) → IsLegal node one → IsLegal node other → IsTaken node event
    → KeepSame node one other → admit node one event ≡ admit node other event

-- two legal histories that keep the same state still do so with one more event that is new after both
abbrev pub KeptFollows : Type 0
KeptFollows = (node : Node) (one other : History) (event : Event) → IsLegal node (one ++ event ∷ []) → IsLegal node (other ++ event ∷ [])
    → KeepSame node one other → KeepSame node (one ++ event ∷ []) (other ++ event ∷ [])

-- two legal histories that keep the same state are in the same round, and propose the same header
abbrev pub KeptProposes : Type 0
KeptProposes = (node : Node) (one other : History) → IsLegal node one → IsLegal node other → KeepSame node one other
    → (round node one ≡ round node other) × (propose node one ≡ propose node other)

-- ---- how a state's order grows

-- an output is a piece of the order
abbrev pub is_order : Output → Bool
is_order (output.Order start digests) = true
is_order _ = false

-- the digests of an output that is a piece of the order; no digests for any other output
abbrev pub digests_in : Output → List Digest
digests_in (output.Order start digests) = digests
digests_in _ = []

-- these outputs are pieces of the order, from this place on and without a gap; each but the last one is full
abbrev pub StandInTurn : ℕ → List Output → Type 0
StandInTurn place [] = ⊤
StandInTurn place (output.Order start digests ∷ []) = (start ≡ place) × (length digests ≤ MAX_ORDER_DIGESTS)
StandInTurn place (output.Order start digests ∷ next ∷ rest) = (start ≡ place) × (length digests ≡ MAX_ORDER_DIGESTS) × StandInTurn (place + length digests) (next ∷ rest)
StandInTurn place (other ∷ rest) = ⊥

-- the outputs have, in pieces without a gap, exactly what the order gains by the event
pub record IsPutOut (node : Node) (state : State) (event : Event) (outputs : List Output) : Type 0 where
  pub pieces : filter is_order outputs ≡ order_outputs state (after node state event)
  pub joined : flat_map digests_in outputs ≡ drop (length state.order) (after node state event).order
  pub in_turn : StandInTurn (length state.order) (filter is_order outputs)

-- for each new event: its outputs have exactly what the order gains by it, in pieces without a gap
abbrev pub OrderIsPutOut : Type 0
OrderIsPutOut = (node : Node) (state : State) (event : Event) (outputs : List Output) → answered node state event ≡ New outputs
    → IsPutOut node state event outputs

-- An event takes nothing back. The floor never falls; batches, coins and the order grow only at their ends; acknowledgements, and the marks
-- of named batches, stay. A vote, an own header or a vote on it stays unless its round is low then, and a certificate unless its round is
-- below the floor then.
pub record IsKeptAfter (node : Node) (state : State) (event : Event) : Type 0 where
  pub floor : floor_in node state ≤ floor_in node (after node state event)
  pub batches : Begins state.batches (after node state event).batches
  pub coins : Begins state.coins (after node state event).coins
  pub order : Begins state.order (after node state event).order
  pub acked : (digest : Digest) (member : ℕ) → state.acked digest member ≡ true → (after node state event).acked digest member ≡ true
  pub named : (digest : Digest) → state.named digest ≡ true → (after node state event).named digest ≡ true
  pub votes : (round author : ℕ) (digest : Digest) → state.votes round author ≡ Some digest
      → ((after node state event).votes round author ≡ Some digest) ⊎ (is_low (floor_in node (after node state event)) round ≡ true)
  pub own_headers : (round : ℕ) (header : Header) → state.own_headers round ≡ Some header
      → ((after node state event).own_headers round ≡ Some header) ⊎ (is_low (floor_in node (after node state event)) round ≡ true)
  pub counted : (round voter : ℕ) (vote : Vote) → state.counted round voter ≡ Some vote
      → ((after node state event).counted round voter ≡ Some vote) ⊎ (is_low (floor_in node (after node state event)) round ≡ true)
  pub slots : (round author : ℕ) (c : Certificate) → state.slots round author ≡ Some c
      → ((after node state event).slots round author ≡ Some c) ⊎ (round < floor_in node (after node state event))

abbrev pub StateStands : Type 0
StateStands = (node : Node) (state : State) (event : Event) → IsNode node → IsSound node state → IsTaken node event
    → IsTrue (is_new (answered node state event)) → IsKeptAfter node state event

-- ---- sound states

-- the fresh state is sound: a node can go on from it
abbrev pub FreshIsSound : Type 0
FreshIsSound = (node : Node) → IsNode node → IsSound node (fresh node)

-- the state after an event that is new at a sound state is sound
abbrev pub SoundStays : Type 0
SoundStays = (node : Node) (state : State) (event : Event) → IsNode node → IsSound node state → IsTaken node event
    → IsTrue (is_new (answered node state event)) → IsSound node (after node state event)

-- the state kept of a legal history is sound
abbrev pub KeptIsSound : Type 0
KeptIsSound = (node : Node) (history : History) → IsLegal node history → IsSound node (kept node history)

-- the header that a node proposes at a sound state can be taken, and is new there
abbrev pub SoundProposes : Type 0
SoundProposes = (node : Node) (state : State) (header : Header) → IsNode node → IsSound node state → proposed node state ≡ Some header
    → IsTaken node (own_event node header) × (answered node state (own_event node header) ≡ New (header_outputs node header))

-- ---- after a new event

-- a node can take this event, the state is sound, and the event is new there
pub record Comes (node : Node) (state : State) (event : Event) : Type 0 where
  pub node_is : IsNode node
  pub sound : IsSound node state
  pub taken : IsTaken node event
  pub new : IsTrue (is_new (answered node state event))

-- the state after the event has the same floor before and after what is below that floor was dropped
abbrev pub FloorsAgree : Type 0
FloorsAgree = (node : Node) (state : State) (event : Event) → Comes node state event
    → floor_in node (grown node state event.message) ≡ floor_in node (after node state event)

-- a round is low if and only if it is at or below the floor
abbrev pub LowIsToTheFloor : Type 0
LowIsToTheFloor = (floor round : ℕ) → is_low floor round ≡ nat_le round floor

-- ---- when only the certificates of high rounds are held

-- If two tables of certificates agree from a round on, they still do after one certificate was added to both, and after the rounds below a
-- higher round were dropped.
pub record HoldsOn (low : ℕ) (held all : Slots) : Type 0 where
  pub grows : (certificate : Option Certificate) → HoldsFrom low (slots_with held certificate) (slots_with all certificate)
  pub drops : (high : ℕ) → low ≤ high → HoldsFrom high (λ round author. if nat_lt round high then None else held round author) all

abbrev pub HeldGoesOn : Type 0
HeldGoesOn = (low : ℕ) (held all : Slots) → HoldsFrom low held all → HoldsOn low held all

-- the certificates of a sound state from some round on, at or below its floor, are enough: they give the same results as all of them
abbrev pub HeldIsEnoughNow : Type 0
HeldIsEnoughNow = (node : Node) (state : State) (low : ℕ) (held : Slots) → IsNode node → IsSound node state → low ≤ floor_in node state
    → HoldsFrom low held state.slots → SayTheSame node low (ledger_in node state) state.coins held state.slots

-- Held certificates are enough for an event: with what the event adds they give the same results as the state does; what they order since
-- its last committed wave extends its order; and they hold all that the state after the event holds from its floor on.
pub record IsEnoughAfter (node : Node) (state : State) (event : Event) (low : ℕ) (held : Slots) : Type 0 where
  pub same : SayTheSame node low (ledger_in node state) (grown node state event.message).coins held (grown node state event.message).slots
  pub order : (after node state event).order
      ≡ state.order ++ ordered_since (ledger_of node held (grown node state event.message).coins) (last_wave (ledger_in node state))
  pub afterwards : HoldsFrom (floor_in node (after node state event)) held (after node state event).slots

-- `IsEnoughAfter` holds of the certificates of a sound state from some round on, at or below its floor, with the certificate that a new
-- event adds
abbrev pub HeldIsEnoughAfter : Type 0
HeldIsEnoughAfter = (node : Node) (state : State) (event : Event) (low : ℕ) (held : Slots) → IsNode node → IsSound node state → IsTaken node event
    → IsTrue (is_new (answered node state event)) → low ≤ floor_in node state → HoldsFrom low held (grown node state event.message).slots
    → IsEnoughAfter node state event low held
