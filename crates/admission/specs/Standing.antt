-- When a validator's tables hold a state, and when what they answer is right for it.
use Rattle.std.specs.Prelude.{◌≡◌, IsTrue, Bool, true, false, Result}
use Rattle.std.specs.Global.{Vec}
use Rattle.wire.specs.declared.message.Message.TheVariants as message
use Rattle.spec_model.specs.Admitting.{is_new, IsTaken}
use Rattle.spec_model.specs.Nodes.{Node, IsNode}
use Rattle.spec_model.specs.States.{State}
use Rattle.spec_model.specs.Words.{Author, Digest, Event, Message, Output, Signature}
use Rattle.header.specs.declared.admission.Admission.TheVariants.{New}
use Rattle.header.specs.declared.refusal.Refusal.{Refusal}
use Rattle.spec_machine.specs.Machine.{answered, after, is_ready}
use Rattle.spec_machine.specs.Sound.{IsSound}
use Rattle.admission.specs.Headers as headers
use Rattle.sequencer.specs.Sequence as sequence
use Rattle.admission.specs.declared.step.Step.{Step}
use Rattle.admission.specs.Answers.{IsAnswer, RefusesAs}
use Rattle.admission.specs.Batches.{HasBatches}
use Rattle.admission.specs.Votes.{HasVotes}
use Rattle.admission.specs.declared.tables.Tables.{Tables}

-- the tables hold a node's state: its batches, the votes for others' headers, the own headers with the votes on them, the certificates, the
-- coins and the order
pub record AreAt (node : Node) (state : State) (tables : Tables) : Type 0 where
  pub own : tables.own ≡ node.own
  pub batches : HasBatches node state tables.batches
  pub votes : HasVotes node state tables.votes
  pub headers : headers.IsAt node state tables.headers
  pub sequence : sequence.IsAt node state tables.sequencer

-- an event with this message, which the node can take, comes to tables that hold a sound state of the node
pub record Meets (node : Node) (state : State) (event : Event) (tables : Tables) (came : Message) : Type 0 where
  pub node_is : IsNode node
  pub sound : IsSound node state
  pub taken : IsTaken node event
  pub message : event.message ≡ came
  pub at : AreAt node state tables

-- there are a node, a sound state and an event such that these tables hold the state, and the event has this message and can be taken
abbrev pub MeetSome : Tables → Message → Type 0
MeetSome tables came = (node : Node) × (state : State) × (event : Event) × Meets node state event tables came

-- there are a node, a sound state and a new event such that these tables hold the state, and the event has this message and can be taken
abbrev pub MeetNew : Tables → Message → Type 0
MeetNew tables came =
    (node : Node) × (state : State) × (event : Event) × Meets node state event tables came × IsTrue (is_new (answered node state event))

-- a condition on a node and an event. It turns a fact into the statement that if the condition is met, the fact holds
abbrev pub Premise : Type 1
Premise = Node → Event → Type 0 → Type 0

-- the empty condition: the fact holds in any case
abbrev pub always : Premise
always node event fact = fact

-- the condition that the event is from this sender
abbrev pub from_sender : Author → Premise
from_sender sender node event fact = event.sender ≡ sender → fact

-- the condition that the node's signatures are these: sign gives the signature of each digest
abbrev pub with_signatures : (Digest → Signature) → Premise
with_signatures sign node event fact = node.sign ≡ sign → fact

-- a fact holds for each node, sound state and event such that the tables hold the state and the event has this message, if the premise's
-- condition is met
abbrev pub ForEach : Premise → Tables → Message → (Node → State → Event → Type 0) → Type 0
ForEach premise tables came fact =
    (node : Node) (state : State) (event : Event) → Meets node state event tables came → premise node event (fact node state event)

-- the result for a message is right: at each sound state that the tables hold, it is the answer to any event with this message, or Memory
abbrev pub Answers : Premise → Tables → Message → Result Step Refusal → Type 0
Answers premise tables came result = ForEach premise tables came (λ node state event. IsAnswer (answered node state event) result)

-- where a sound state that the tables hold refuses an event with this message, the result is the same refusal, whether or not memory runs
-- out
abbrev pub Refuses : Premise → Tables → Message → Result Step Refusal → Type 0
Refuses premise tables came result = ForEach premise tables came (λ node state event. RefusesAs (answered node state event) result)

-- where an event with this message is new, these are its outputs
abbrev pub PutsOut : Tables → Message → Vec Output → Type 0
PutsOut tables came outputs =
    ForEach always tables came (λ node state event. IsTrue (is_new (answered node state event)) → answered node state event ≡ New outputs.items)

-- where an event with this message is new at the state of the earlier tables, the later tables hold the state after it
abbrev pub GoOn : Premise → Tables → Tables → Message → Type 0
GoOn premise before later came =
    ForEach premise before came (λ node state event. IsTrue (is_new (answered node state event)) → AreAt node (after node state event) later)

-- the flag says whether an event with this message is ready: its answer isn't that a parent is missing
abbrev pub IsReady : Tables → Message → Bool → Type 0
IsReady tables came result = ForEach always tables came (λ node state event. result ≡ is_ready node state event)

-- the flag says whether an event with this message would be new
abbrev pub IsNew : Premise → Tables → Message → Bool → Type 0
IsNew premise tables came result = ForEach premise tables came (λ node state event. result ≡ is_new (answered node state event))

-- ---- laws

-- a message has parents: it is a header or a certificate
abbrev pub has_parents : Message → Bool
has_parents (message.Header header) = true
has_parents (message.Certificate certificate) = true
has_parents _ = false

-- an event without parents is always ready, since it lacks none
abbrev pub OthersAreReady : Type 0
OthersAreReady = (node : Node) (state : State) (event : Event) → has_parents event.message ≡ false → is_ready node state event ≡ true

-- tables hold at most one sound state of a node
abbrev pub OneState : Type 0
OneState = (node : Node) (tables : Tables) (one other : State) → IsSound node one → AreAt node one tables → IsSound node other → AreAt node other tables
    → one ≡ other
