-- What becomes of an event that a frame brings.
use Rattle.std.specs.Prelude.{Bool, List, ◌≡◌, ◌⊎◌, true, false, Option, Some, None, Result, Ok, Err, is_some, if◌then◌else◌}
use Rattle.book.specs.declared.book.Receipt.{Receipt}
use Rattle.header.specs.Checks.{fault_of, accepts_all}
use Rattle.header.specs.Digested.{certificate_digest_in}
use Rattle.header.specs.declared.error.CheckError.{CheckError}
use Rattle.spec_laws.specs.Laws.{own_event}
use Rattle.wire.specs.Lists.{Begins}
use Rattle.spec_machine.specs.After.{after_all}
use Rattle.spec_machine.specs.Machine.{answered, is_missing_parents, proposed}
use Rattle.spec_model.specs.States.{State}
use Rattle.spec_model.specs.Words.{Event, Header}
use Rattle.header.specs.declared.refusal.Refusal.{Refusal}
use Rattle.node_io.specs.declared.rejection.Rejection.{Rejection}
use Rattle.node_io.specs.declared.rejection.Rejection.TheVariants.{Unchecked, Refused}
use Rattle.node_seats.specs.Sights.{SeatView}
use Rattle.node_seats.specs.Views.{events, IsSame}
use Rattle.node_seats.specs.declared.view.Marked.{Marked}
use Rattle.node_shared.specs.Answers.{Submits}
use Rattle.node_shared.specs.Home.{NodeView, IsBase, seen_in}
use Rattle.node.specs.Callers.{CallerView}
use Rattle.sigface.specs.Scheme.{Scheme}
use Rattle.validator.specs.Setting.{node_of}
use Rattle.node_run.specs.declared.caller.Taken.{Taken}
use Rattle.node_run.specs.declared.caller.Taken.TheVariants.{New, Known, Waits}

-- the result that is reported for a receipt or a refusal by the node
abbrev pub reported_as : Result Receipt Refusal → Result Taken Rejection
reported_as (Ok receipt) = Ok (if receipt.new then New else Known)
reported_as (Err refusal) = Err (Refused refusal)

-- this event was submitted to the node, and this is the result that is reported
pub record IsSubmitted {S : Type 0} (scheme : Scheme S) (node : NodeView S) (event : Event) (before later : CallerView S) (reported : Result Taken Rejection) : Type 0 where
  pub answer : Result Receipt Refusal
  pub submits : Submits scheme node event before.seat.view later.seat.view answer
  pub is : reported ≡ reported_as answer

-- the event is a certificate, and from each base it lacks a parent after all accepted events, which the caller has now seen
pub record LacksParents {S : Type 0} (scheme : Scheme S) (node : NodeView S) (event : Event) (later : CallerView S) : Type 0 where
  pub certificate : is_some (certificate_digest_in event.message) ≡ true
  pub lacks : (base : State) → IsBase scheme node base → is_missing_parents (answered (node_of scheme node.setting) (seen_in (node_of scheme node.setting) base later.seat) event) ≡ true

-- the event is no certificate; or from each base it lacked no parent after the events that the caller had seen at some moment of the call
pub record MayBeSubmitted {S : Type 0} (scheme : Scheme S) (node : NodeView S) (event : Event) (before later : CallerView S) : Type 0 where
  pub looked : List Marked
  pub more : Begins before.seat.view.seen looked
  pub less : Begins looked later.seat.view.seen
  pub goes : is_some (certificate_digest_in event.message) ≡ true → (base : State) → IsBase scheme node base
      → is_missing_parents (answered (node_of scheme node.setting) (after_all (node_of scheme node.setting) base (events looked)) event) ≡ false

-- A call only looked at the node. The seat is the same, and brought no event. It has seen what it had seen before, and perhaps more events.
-- It knows as settled what it knew before, and perhaps more, all of which it has seen. Whether the call took out an output isn't said here.
pub record OnlyLooks (before later : SeatView) : Type 0 where
  pub same : IsSame before later
  pub seen : Begins before.view.seen later.view.seen
  pub durable : Begins before.view.durable later.view.durable
  pub within : Begins later.view.durable later.view.seen

-- What became of an event: the first fault of the checks was reported; or the event has to wait; or it might be submitted, and was.
pub record Handles {S : Type 0} (scheme : Scheme S) (node : NodeView S) (fault : Option CheckError) (event : Event) (before later : CallerView S) (reported : Result Taken Rejection) : Type 0 where
  pub unchecked : (error : CheckError) → fault ≡ Some error → (reported ≡ Err (Unchecked error)) × (later ≡ before)
  pub checked : fault ≡ None → (LacksParents scheme node event later × IsSame before.seat later.seat × (reported ≡ Ok (Waits event)))
      ⊎ (MayBeSubmitted scheme node event before later × IsSubmitted scheme node event before later reported)

-- what became of an event that had waited: the first fault of the checks was reported, or the event was submitted
pub record HandlesAgain {S : Type 0} (scheme : Scheme S) (node : NodeView S) (fault : Option CheckError) (event : Event) (before later : CallerView S)
    (reported : Result Taken Rejection) : Type 0 where
  pub unchecked : (error : CheckError) → fault ≡ Some error → (reported ≡ Err (Unchecked error)) × (later ≡ before)
  pub checked : fault ≡ None → IsSubmitted scheme node event before later reported

-- the result reports that the event was new
abbrev pub is_reported_new : Result Taken Rejection → Bool
is_reported_new (Ok New) = true
is_reported_new other = false

-- The node was asked which header it proposes, from each base after the events that the caller had seen at some moment of the call. If it
-- proposed a header that passes the checks, this was submitted, and `new` says whether it was new. Otherwise nothing was submitted.
pub record IsProposed {S : Type 0} (scheme : Scheme S) (node : NodeView S) (before later : CallerView S) (new : Bool) : Type 0 where
  pub looked : List Marked
  pub more : Begins before.seat.view.seen looked
  pub less : Begins looked later.seat.view.seen
  pub found : Option Header
  pub proposes : (base : State) → IsBase scheme node base → found ≡ proposed (node_of scheme node.setting) (after_all (node_of scheme node.setting) base (events looked))
  pub none : found ≡ None → (new ≡ false) × (later.seat.view.mine ≡ before.seat.view.mine)
  pub some : (header : Header) → found ≡ Some header
      → fault_of node.setting.charter accepts_all (own_event (node_of scheme node.setting) header) ≡ None
      → (reported : Result Taken Rejection) × IsSubmitted scheme node (own_event (node_of scheme node.setting) header) before later reported × (new ≡ is_reported_new reported)
  pub failed : (header : Header) (error : CheckError) → found ≡ Some header
      → fault_of node.setting.charter accepts_all (own_event (node_of scheme node.setting) header) ≡ Some error → (new ≡ false) × (later.seat.view.mine ≡ before.seat.view.mine)
