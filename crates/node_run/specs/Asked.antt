-- What becomes of certificates that wait, once the rounds in which they wait are due.
use Rattle.std.specs.Prelude.{◌≡◌, ◌≢◌, ◌⊎◌, ◌<◌, ◌≤◌, ℕ, true, false, List, [], ◌∷◌, ◌++◌, All, Contains, IsSome, None, Bool, Result}
use Rattle.header.specs.Checks.{fault_of, accepts_all}
use Rattle.header.specs.Digested.{certificate_digest_in}
use Rattle.wire.specs.Lists.{Begins}
use Rattle.spec_machine.specs.After.{after_all}
use Rattle.spec_machine.specs.Machine.{answered, is_missing_parents}
use Rattle.spec_model.specs.States.{State}
use Rattle.spec_model.specs.Words.{Event}
use Rattle.node_io.specs.declared.rejection.Rejection.{Rejection}
use Rattle.node_seats.specs.Views.{events, IsSame}
use Rattle.node_seats.specs.declared.view.Marked.{Marked}
use Rattle.node_shared.specs.Home.{NodeView, IsBase}
use Rattle.node.specs.Callers.{CallerView, StaysWith}
use Rattle.sigface.specs.Scheme.{Scheme}
use Rattle.validator.specs.Setting.{node_of}
use Rattle.waiter.specs.Rounds.{WaitersView, held}
use Rattle.node_run.specs.Asking.{IsTakenOut}
use Rattle.node_run.specs.Bringing.{BringsAgain}
use Rattle.node_run.specs.declared.due.Waiting.{Waiting}
use Rattle.node_run.specs.declared.due.Waiting.TheVariants.{Nothing, Rounds}

-- the certificates that wait in this round are due: the node has to be asked whether they are ready
abbrev pub IsDue : Waiting → ℕ → Type 0
IsDue Nothing round = ⊥
IsDue (Rounds low end) round = (low ≤ round) × (round < end)

-- The caller only asked the node. It has the same node; its seat brought no event, and knows the same events as settled; and it has seen
-- what it had seen before, and perhaps more events.
pub record OnlyAsks {S : Type 0} (before later : CallerView S) : Type 0 where
  pub stays : StaysWith before later
  pub same : IsSame before.seat later.seat
  pub durable : later.seat.view.durable ≡ before.seat.view.durable
  pub seen : Begins before.seat.view.seen later.seat.view.seen

-- The node was asked about a certificate that waits, which may not be submitted yet. The certificate fails the checks; or from each base it
-- lacked a parent after the events that the caller had seen at some moment between `before` and `later`.
pub record WasAsked {S : Type 0} (scheme : Scheme S) (node : NodeView S) (before later : CallerView S) (event : Event) : Type 0 where
  pub looked : List Marked
  pub more : Begins before.seat.view.seen looked
  pub less : Begins looked later.seat.view.seen
  pub lacks : IsSome (certificate_digest_in event.message) → fault_of before.setting.charter accepts_all event ≡ None → (base : State) → IsBase scheme node base
      → is_missing_parents (answered (node_of scheme node.setting) (after_all (node_of scheme node.setting) base (events looked)) event) ≡ true

-- The node was asked about a certificate that waits, which is ready. The certificate passes the checks, and from each base it lacked no
-- parent after the events that the caller had seen at some moment between `before` and `later`.
pub record WasReady {S : Type 0} (scheme : Scheme S) (node : NodeView S) (before later : CallerView S) (event : Event) : Type 0 where
  pub looked : List Marked
  pub more : Begins before.seat.view.seen looked
  pub less : Begins looked later.seat.view.seen
  pub passed : fault_of before.setting.charter accepts_all event ≡ None
  pub has : (base : State) → IsBase scheme node base
      → is_missing_parents (answered (node_of scheme node.setting) (after_all (node_of scheme node.setting) base (events looked)) event) ≡ false

-- Of these waiting certificates, in the order in which they came, this one was ready at some moment, and each one before it may not be
-- submitted yet, as the node was asked at a moment of its own.
pub record IsFirstReady {S : Type 0} (scheme : Scheme S) (node : NodeView S) (before later : CallerView S) (waiting : List Event) (event : Event) : Type 0 where
  pub front : List Event
  pub back : List Event
  pub stood : waiting ≡ front ++ event ∷ back
  pub asked : All (WasAsked scheme node before later) front
  pub ready : WasReady scheme node before later event

-- the node was asked about each certificate that waits in these rounds, and none may be submitted yet
abbrev pub AsksEach : {S : Type 0} → Scheme S → NodeView S → ℕ → ℕ → WaitersView → CallerView S → CallerView S → Type 0
AsksEach scheme node low end waiters before later = (round : ℕ) → low ≤ round → round < end → All (WasAsked scheme node before later) (held waiters round)

-- The node was asked about each certificate of a round that isn't due any more. If no round is due any more, it was also asked about the
-- first certificate of the lowest round in which any waits; the answer shows whether the floor has risen over that round.
pub record AsksWhatWasDue {S : Type 0} (scheme : Scheme S) (node : NodeView S) (due later_due : Waiting) (waiters : WaitersView) (before later : CallerView S) : Type 0 where
  pub rounds : (round : ℕ) → IsDue due round → (IsDue later_due round → ⊥) → All (WasAsked scheme node before later) (held waiters round)
  pub lowest : due ≢ Nothing → later_due ≡ Nothing → (round : ℕ) (first : Event) (rest : List Event) → held waiters round ≡ first ∷ rest
      → ((other : ℕ) → other < round → held waiters other ≡ []) → WasAsked scheme node before later first

-- a certificate that had waited was submitted
abbrev pub WasSubmitted : {S : Type 0} → Scheme S → NodeView S → CallerView S → Event → Type 0
WasSubmitted {S} scheme node caller event = (before : CallerView S) × (later : CallerView S) × (result : Result Bool Rejection)
    × (BringsAgain scheme node (fault_of caller.setting.charter accepts_all event) event before later result)
    × Begins caller.seat.view.seen before.seat.view.seen

-- A waiting certificate was taken out: the first that is ready of those of its round. Either no certificate waits in a lower round, and the
-- same rounds are due as before; or its round was due, the due rounds from it on still are, and the node was asked about each certificate
-- of those below it.
pub record TakesFirstReady {S : Type 0} (scheme : Scheme S) (node : NodeView S) (due later_due : Waiting) (waiters later_waiters : WaitersView) (before later : CallerView S) (event : Event) : Type 0 where
  pub round : ℕ
  pub taken : IsTakenOut event round waiters later_waiters
  pub first : IsFirstReady scheme node before later (held waiters round) event
  pub turn : ((later_due ≡ due) × ((other : ℕ) → other < round → held waiters other ≡ []))
      ⊎ ((low : ℕ) × (end : ℕ) × (due ≡ Rounds low end) × (later_due ≡ Rounds round end) × (round < end) × AsksEach scheme node low round waiters before later)

-- Each certificate that waited in a due round was asked about, or was submitted, or still waits in a due round.
abbrev pub GoesThrough : {S : Type 0} → Scheme S → NodeView S → Waiting → Waiting → WaitersView → WaitersView → CallerView S → CallerView S → Type 0
GoesThrough scheme node due later_due waiters later_waiters before later = (round : ℕ) (event : Event) → IsDue due round → Contains (held waiters round) event
    → WasAsked scheme node before later event ⊎ WasSubmitted scheme node before event ⊎ (IsDue later_due round × Contains (held later_waiters round) event)
