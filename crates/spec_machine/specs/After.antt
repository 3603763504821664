-- Events that come after a state: where they lead, which of them a node can take, and which outputs they make. The state need not be one
-- that a known history led to: it may have been read from a disk.
use Rattle.std.specs.Prelude.{◌≡◌, ◌&&◌, Bool, true, IsTrue, List, [], ◌∷◌, ◌++◌, All, Contains}
use Rattle.wire.specs.Lists.{Begins}
use Rattle.header.specs.declared.admission.Admission.TheVariants.{New, Known}
use Rattle.spec_model.specs.Admitting.{is_new, IsTaken, IsLegal}
use Rattle.spec_model.specs.Giving.{kept, MayGive}
use Rattle.spec_model.specs.Histories.{History}
use Rattle.spec_model.specs.Nodes.{Node, IsNode}
use Rattle.spec_model.specs.States.{State}
use Rattle.spec_model.specs.Words.{Event, Output}
use Rattle.spec_machine.specs.Machine.{after, answered}
use Rattle.spec_machine.specs.Sound.{IsSound}

-- the state after these events, of which the first is the oldest
unfoldable pub after_all : Node → State → List Event → State
after_all node state [] = state
after_all node state (event ∷ events) = after_all node (after node state event) events

-- each of the events is new at the state after the events before it
unfoldable pub each_new_after : Node → State → List Event → Bool
each_new_after node state [] = true
each_new_after node state (event ∷ events) = is_new (answered node state event) && each_new_after node (after node state event) events

-- events are legal after a sound state (one from which a node can go on): each can be taken, and is new at the state after those before it
pub record IsLegalAfter (node : Node) (state : State) (events : List Event) : Type 0 where
  pub node_is : IsNode node
  pub sound : IsSound node state
  pub taken : All (IsTaken node) events
  pub new : IsTrue (each_new_after node state events)

-- an output was put out after these events: by the last of them, which was new, or by an event that is known at the state after all of them
pub data WasPutOutAfter (node : Node) (state : State) (events : List Event) (output : Output) : Type 0 where
  by_new : (before : List Event) (event : Event) (outputs : List Output) → events ≡ before ++ event ∷ []
      → answered node (after_all node state before) event ≡ New outputs → Contains outputs output → WasPutOutAfter node state events output
  by_known : (event : Event) (outputs : List Output) → IsTaken node event
      → answered node (after_all node state events) event ≡ Known outputs → Contains outputs output → WasPutOutAfter node state events output

-- ---- how this agrees with the definitions over histories

-- the last events of a legal history lead from the state kept of the events before them to the state kept of the whole history
abbrev pub AfterIsKept : Type 0
AfterIsKept = (node : Node) (history events : History) → IsLegal node (history ++ events)
    → after_all node (kept node history) events ≡ kept node (history ++ events)

-- the last events of a legal history are legal after the state kept of the events before them
abbrev pub LegalAfter : Type 0
LegalAfter = (node : Node) (history events : History) → IsLegal node (history ++ events) → IsLegalAfter node (kept node history) events

-- a legal history stays legal if events are appended that are legal after the state kept of it
abbrev pub LegalAgain : Type 0
LegalAgain = (node : Node) (history events : History) → IsLegal node history → IsLegalAfter node (kept node history) events
    → IsLegal node (history ++ events)

-- the three laws above together: the state kept of a legal history determines all that later events do
pub record StatesAreHistories : Type 0 where
  pub kept : AfterIsKept
  pub legal : LegalAfter
  pub again : LegalAgain

-- an output that was put out after these events may be given out after each legal history that keeps the state and then has the events
abbrev pub PutOutMayBeGiven : Type 0
PutOutMayBeGiven = (node : Node) (state : State) (events : List Event) (output : Output) → IsLegalAfter node state events
    → WasPutOutAfter node state events output → (history : History) → IsLegal node history → kept node history ≡ state
    → MayGive node (history ++ events) output

-- ---- what holds from any sound state on

-- the state after the events is sound too, and the order before them is a prefix of the order after them
pub record GrowsAfter (node : Node) (state : State) (events : List Event) : Type 0 where
  pub order : Begins state.order (after_all node state events).order
  pub sound : IsSound node (after_all node state events)

abbrev pub OrderGrowsAfter : Type 0
OrderGrowsAfter = (node : Node) (state : State) (events : List Event) → IsLegalAfter node state events → GrowsAfter node state events

-- two lists of events together lead where first the one and then the other leads, and are legal if and only if each is legal in its turn
pub record JoinsAfter (node : Node) (state : State) (events more : List Event) : Type 0 where
  pub leads : after_all node state (events ++ more) ≡ after_all node (after_all node state events) more
  pub parts : IsLegalAfter node state (events ++ more) → IsLegalAfter node state events × IsLegalAfter node (after_all node state events) more
  pub joined : IsLegalAfter node state events → IsLegalAfter node (after_all node state events) more → IsLegalAfter node state (events ++ more)

abbrev pub AfterJoins : Type 0
AfterJoins = (node : Node) (state : State) (events more : List Event) → JoinsAfter node state events more
