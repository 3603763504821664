-- What the calls of a shared node answer.
use Rattle.std.specs.Prelude.{◌≡◌, ◌≤◌, ◌<◌, ◌⊎◌, ⊤, ℕ, true, false, List, [], ◌∷◌, ◌++◌, length, map, take, All, IsTrue, Result, IfOk, IfErr}
use Rattle.spec_machine.specs.After.{after_all}
use Rattle.spec_machine.specs.Machine.{answered}
use Rattle.spec_model.specs.Admitting.{is_new, IsLegal}
use Rattle.spec_model.specs.Giving.{kept, MayGive}
use Rattle.spec_model.specs.Histories.{History}
use Rattle.wire.specs.Lists.{Begins}
use Rattle.spec_model.specs.Nodes.{Node}
use Rattle.spec_model.specs.States.{State}
use Rattle.spec_model.specs.Words.{Event, Output}
use Rattle.header.specs.declared.admission.Admission.{Admission}
use Rattle.header.specs.declared.admission.Admission.TheVariants.{New, Known, Refused}
use Rattle.header.specs.declared.refusal.Refusal.{Refusal}
use Rattle.header.specs.declared.refusal.Refusal.TheVariants.{Memory, Down, StoreFull}
use Rattle.spec_world.specs.World.{Waiting}
use Rattle.book.specs.Book.{GoesOutAfter}
use Rattle.book.specs.Queue.{TicketsRise}
use Rattle.book.specs.declared.book.Receipt.{Receipt}
use Rattle.book.specs.declared.book.TheConstants.{MAX_ACCEPTED}
use Rattle.node_seats.specs.Sights.{SeatView}
use Rattle.node_seats.specs.declared.view.Marked.{Marked}
use Rattle.node_seats.specs.declared.view.View.{View}
use Rattle.node_seats.specs.Views.{events, mark}
use Rattle.node_shared.specs.Home.{NodeView, IsBase}
use Rattle.sigface.specs.Scheme.{Scheme}
use Rattle.validator.specs.Setting.{node_of}

-- from each base of the node, this is the answer to the event after all of these events
abbrev pub IsAnsweredAfter : {S : Type 0} → Scheme S → NodeView S → List Marked → Event → Admission → Type 0
IsAnsweredAfter scheme node all event answer =
    (base : State) → IsBase scheme node base → answered (node_of scheme node.setting) (after_all (node_of scheme node.setting) base (events all)) event ≡ answer

-- the event is new after all of these events, which are fewer than a run may accept. The seat has seen them, and then this event, which is
-- marked with the seat's number and is the last one that the seat brought
pub record IsAdded {S : Type 0} (scheme : Scheme S) (node : NodeView S) (event : Event) (before : View) (all : List Marked) (later : View) (receipt : Receipt) : Type 0 where
  pub outputs : List Output
  pub answer : IsAnsweredAfter scheme node all event (New outputs)
  pub room : length all < MAX_ACCEPTED
  pub seen : later.seen ≡ all ++ mark before.number event ∷ []
  pub mine : later.mine ≡ before.mine ++ event ∷ []
  pub ticket : receipt.ticket ≡ length later.seen

-- the event is known after all of these events. The seat has seen them; the events that it brought are as before
pub record IsKnown {S : Type 0} (scheme : Scheme S) (node : NodeView S) (event : Event) (before : View) (all : List Marked) (later : View) (receipt : Receipt) : Type 0 where
  pub outputs : List Output
  pub answer : IsAnsweredAfter scheme node all event (Known outputs)
  pub seen : later.seen ≡ all
  pub mine : later.mine ≡ before.mine
  pub ticket : receipt.ticket ≡ length later.seen

-- why an event may be refused at a state that was reached by `count` accepted events: an allocation failed, the node is down, the run is
-- full, or the state refuses it
abbrev pub MayRefuseAt : Node → State → ℕ → Event → Refusal → Type 0
MayRefuseAt node state count event Memory = ⊤
MayRefuseAt node state count event Down = ⊤
MayRefuseAt node state count event StoreFull = (answered node state event ≡ Refused StoreFull) ⊎ IsFull
  where
    IsFull : Type 0
    IsFull = IsTrue (is_new (answered node state event)) × (count ≡ MAX_ACCEPTED)
MayRefuseAt node state count event refusal = answered node state event ≡ Refused refusal

-- A seat submits an event: there is a list of accepted events, of which the events that the seat had seen are a prefix. From each base, the
-- event is answered as one after this list.
pub record Submits {S : Type 0} (scheme : Scheme S) (node : NodeView S) (event : Event) (before : View) (later : View) (answer : Result Receipt Refusal) : Type 0 where
  pub all : List Marked
  pub more : Begins before.seen all
  pub new : IfOk answer (λ receipt. receipt.new ≡ true → IsAdded scheme node event before all later receipt)
  pub known : IfOk answer (λ receipt. receipt.new ≡ false → IsKnown scheme node event before all later receipt)
  pub refused : IfErr answer (λ refusal. (base : State) → IsBase scheme node base
      → MayRefuseAt (node_of scheme node.setting) (after_all (node_of scheme node.setting) base (events all)) (length all) event refusal)
  pub same : IfErr answer (λ refusal. (later.seen ≡ all) × (later.mine ≡ before.mine))

-- from each base, the output goes out after the first `count` events that the seat knows as settled
abbrev pub GoesOutAt : {S : Type 0} → Scheme S → NodeView S → View → ℕ → Output → Type 0
GoesOutAt scheme node view count output =
    (base : State) → IsBase scheme node base → GoesOutAfter (node_of scheme node.setting) base (events (take count view.durable)) output

-- from each base, the output goes out after some first events that the seat knows as settled
pub record IsPutOutBy {S : Type 0} (scheme : Scheme S) (node : NodeView S) (view : View) (output : Output) : Type 0 where
  pub count : ℕ
  pub settled : count ≤ length view.durable
  pub goes_out : GoesOutAt scheme node view count output

-- an output may be given out: after each legal history that keeps a base, followed by the events that the seat knows as settled. An event
-- among these put it out
pub record Gives {S : Type 0} (scheme : Scheme S) (node : NodeView S) (seat : SeatView) (output : Output) : Type 0 where
  pub may : (base : State) (history : History) → IsBase scheme node base → IsLegal (node_of scheme node.setting) history → kept (node_of scheme node.setting) history ≡ base
      → MayGive (node_of scheme node.setting) (history ++ events seat.view.durable) output
  pub put_out : IsPutOutBy scheme node seat.view output

-- Outputs were added at the end of a list, oldest first: no ticket is lower than the one before it. Each ticket is settled as the
-- seat knows. From each base the output goes out after as many events as its ticket says, and each output may be given out.
pub record GivesAll {S : Type 0} (scheme : Scheme S) (node : NodeView S) (seat : SeatView) (before later : List Output) : Type 0 where
  pub waiting : List Waiting
  pub rise : TicketsRise waiting
  pub settled : All (λ one. one.ticket ≤ length seat.view.durable) waiting
  pub put_out : All (λ one. GoesOutAt scheme node seat.view one.ticket one.output) waiting
  pub each : All (λ one. Gives scheme node seat one.output) waiting
  pub added : later ≡ before ++ map (λ one. one.output) waiting
