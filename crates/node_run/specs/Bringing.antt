-- What becomes of a message that a frame brings.
use Rattle.std.specs.Prelude.{◌≡◌, ◌≢◌, ◌⊎◌, Bool, true, false, Option, Result, Ok, Err, IfErr, IsTrue, OnErr}
use Rattle.header.specs.declared.error.CheckError.{CheckError}
use Rattle.spec_model.specs.Words.{Author, Event}
use Rattle.header.specs.declared.refusal.Refusal.TheVariants as refusal
use Rattle.node_io.specs.declared.rejection.Rejection.{Rejection}
use Rattle.node_io.specs.declared.rejection.Rejection.TheVariants.{Refused}
use Rattle.node.specs.Callers.{CallerView}
use Rattle.node_shared.specs.Home.{NodeView}
use Rattle.sigface.specs.Scheme.{Scheme}
use Rattle.waiter.specs.Rounds.{IsWithOne, WaitersView, WaitsThere}
use Rattle.waiter.specs.declared.waiter.TheConstants.{MAX_WAITING}
use Rattle.wire.specs.Batches.{BatchView}
use Rattle.wire.specs.declared.message.Message.TheVariants as message
use Rattle.node_run.specs.Taking.{Handles, HandlesAgain, OnlyLooks}
use Rattle.node_run.specs.declared.caller.Taken.{Taken}
use Rattle.node_run.specs.declared.caller.Taken.TheVariants.{New, Known, Waits}

-- this certificate is put at the end of those that wait in its round, unless one with its digest waits there already
pub record Enters (event : Event) (old new : WaitersView) : Type 0 where
  pub again : WaitsThere old event → new ≡ old
  pub first : (WaitsThere old event → ⊥) → IsWithOne old new event

-- why a certificate can't wait: the node is down; an allocation failed; or the greatest number of certificates wait already, none of them
-- with its digest
abbrev pub CantWait : Event → WaitersView → Bool → Rejection → Type 0
CantWait event held down why =
    ((why ≡ Refused refusal.Down) × IsTrue down) ⊎ (why ≡ Refused refusal.Memory)
    ⊎ ((why ≡ Refused refusal.MissingParents) × (WaitsThere held event → ⊥) × (held.count ≡ MAX_WAITING))

-- A message was handled, and the result says whether it was a new record, or why it was refused. A message that has to wait is put among
-- the certificates that wait, or is refused. Nothing else changes afterwards, except that where the message has to wait the caller's seat
-- may have looked once more.
pub record Brings {S : Type 0} (scheme : Scheme S) (node : NodeView S) (fault : Option CheckError) (event : Event) (before now : CallerView S) (old new : WaitersView)
    (result : Result Bool Rejection) : Type 0 where
  pub reported : Result Taken Rejection
  pub later : CallerView S
  pub handles : Handles scheme node fault event before later reported
  pub is_new : reported ≡ Ok New → (result ≡ Ok true) × (new ≡ old) × (now ≡ later)
  pub is_known : reported ≡ Ok Known → (result ≡ Ok false) × (new ≡ old) × (now ≡ later)
  pub waits : (certificate : Event) → reported ≡ Ok (Waits certificate)
      → (result ≢ Ok true) × (result ≡ Ok false → Enters certificate old new) × OnErr result (new ≡ old) × IfErr result (CantWait certificate old now.seat.view.down) × OnlyLooks later.seat now.seat
  pub refused : (why : Rejection) → reported ≡ Err why → (result ≡ Err why) × (new ≡ old) × (now ≡ later)

-- what is reported of a message that was handled: whether it was a new record, or why it was refused
abbrev pub whether_new : Result Taken Rejection → Result Bool Rejection
whether_new (Ok New) = Ok true
whether_new (Ok other) = Ok false
whether_new (Err why) = Err why

-- an event that had waited was handled again, and the result says whether it was a new record, or why it was refused
pub record BringsAgain {S : Type 0} (scheme : Scheme S) (node : NodeView S) (fault : Option CheckError) (event : Event) (before later : CallerView S)
    (result : Result Bool Rejection) : Type 0 where
  pub reported : Result Taken Rejection
  pub handles : HandlesAgain scheme node fault event before later reported
  pub is : result ≡ whether_new reported

-- the event by which a node hands in a batch of its own
abbrev pub own_batch : Author → BatchView → Event
own_batch own batch = record { sender = own; message = message.Batch batch }
