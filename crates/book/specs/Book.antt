-- The book: the state with which a run began, what it accepted, what of that was taken and settled, and which outputs may leave.
use Rattle.std.specs.Prelude.{◌≡◌, ◌⊎◌, ⊤, ℕ, ◌+◌, ◌≤◌, List, [], ◌∷◌, ◌++◌, length, map, take, drop, Option, Some, None, IfSome, Bool, true, false, IsTrue, ◌<◌, All, if◌then◌else◌}
use Rattle.spec_model.specs.Admitting.{is_new, IsLegal, IsTaken}
use Rattle.spec_model.specs.Giving.{kept, MayGive}
use Rattle.spec_model.specs.Histories.{History}
use Rattle.wire.specs.Lists.{Begins}
use Rattle.spec_model.specs.Nodes.{Node}
use Rattle.spec_model.specs.States.{State}
use Rattle.spec_machine.specs.After.{after_all, IsLegalAfter, WasPutOutAfter}
use Rattle.spec_machine.specs.Machine.{answered}
use Rattle.spec_model.specs.Words.{Event, Output}
use Rattle.header.specs.declared.admission.Admission.TheVariants.{New, Known, Refused}
use Rattle.header.specs.declared.refusal.Refusal.{Refusal}
use Rattle.header.specs.declared.refusal.Refusal.TheVariants.{Memory, Down, StoreFull}
use Rattle.spec_records.specs.Records.{record_of, configuration_of}
use Rattle.spec_checkpoint.specs.Data.{Checkpoint, IsWritten}
use Rattle.spec_checkpoint.specs.Meaning as checkpoint
use Rattle.spec_checkpoint.specs.Records.{state_records}
use Rattle.journal.specs.declared.version.Version.TheVariants.{Second}
use Rattle.spec_world.specs.World.{Waiting}
use Rattle.spec_world.specs.Steps.{ticketed}
use Rattle.validator.specs.Standing as validator
use Rattle.book.specs.declared.book.TheConstants.{MAX_ACCEPTED}
use Rattle.book.specs.declared.reached.Reached.{Reached}
use Rattle.book.specs.Queue.{length_at, TicketsRise, settled_head, settled_front}

-- what contracts see of a book
pub record BookView (S : Type 0) : Type 0 where
  -- the setting and the tables of the validator in the book
  pub validator : validator.ValidatorView S
  -- the records that were accepted and aren't taken yet, oldest first
  pub pending : List (List ℕ)
  -- the outputs that weren't released yet, oldest first
  pub queue : List Waiting
  -- how many records were accepted, taken and settled
  pub accepted : ℕ
  pub taken : ℕ
  pub settled : ℕ
  -- how many of the accepted records the rewriting in flight settles; None where none is in flight
  pub rewriting : Option ℕ
  -- the length of the order after the settled records; and each greater length that later accepted records give it, with the ticket from
  -- which on it has that length
  pub ordered : ℕ
  pub reached : List Reached
  -- whether the book is down, because a device call failed or the journal is full
  pub down : Bool

-- ---- runs

-- a run: the state with which it began (its base), and the events that it accepted, took for the disk and settled, oldest first
pub record Run : Type 0 where
  pub base : State
  pub accepted : History
  pub taken : History
  pub settled : History

-- the run that begins with this state and has accepted nothing
abbrev pub run_on : State → Run
run_on base = record { base = base; accepted = []; taken = []; settled = [] }

-- the state after all events that a run accepted; after the first `count` of them; and after those that are settled
abbrev pub state_in : Node → Run → State
state_in node run = after_all node run.base run.accepted

abbrev pub state_to : Node → ℕ → Run → State
state_to node count run = after_all node run.base (take count run.accepted)

abbrev pub settled_in : Node → Run → State
settled_in node run = after_all node run.base run.settled

-- the run with one more event accepted; with the next `count` accepted events taken; and with the next `count` taken events settled
abbrev pub with_accepted : Run → Event → Run
with_accepted run event = record run { accepted = run.accepted ++ event ∷ [] }

abbrev pub with_taken : Run → ℕ → Run
with_taken run count = record run { taken = take (length run.taken + count) run.accepted }

abbrev pub with_settled : Run → ℕ → Run
with_settled run count = record run { settled = take (length run.settled + count) run.taken }

-- the run with all accepted events taken
abbrev pub with_all_taken : Run → Run
with_all_taken run = record run { taken = run.accepted }

-- the run with all accepted events taken and settled
abbrev pub with_all_settled : Run → Run
with_all_settled run = record run { taken = run.accepted; settled = run.accepted }

-- an output goes out after these events, which are legal after a base: the events put the output out, and it may be given out after each
-- legal history that keeps the base, followed by these events
pub record GoesOutAfter (node : Node) (base : State) (events : History) (output : Output) : Type 0 where
  pub legal : IsLegalAfter node base events
  pub put : WasPutOutAfter node base events output
  pub may : (history : History) → IsLegal node history → kept node history ≡ base → MayGive node (history ++ events) output

-- an output that waits may go out after as many accepted events as its ticket counts
pub record IsDue (node : Node) (run : Run) (waiting : Waiting) : Type 0 where
  pub within : waiting.ticket ≤ length run.accepted
  pub goes_out : GoesOutAfter node run.base (take waiting.ticket run.accepted) waiting.output

-- A book stands at a run: what is in the book is what the run gives. The settled events are a prefix of the taken events, and the taken
-- events of the accepted ones. All are legal after the base. The validator holds the state after the accepted events, and the pending
-- records are those of accepted events that aren't taken. The three numbers are the lengths of the three lists. A rewriting in flight
-- settles at least the settled events, and at most the taken ones. Each output may go out after the events that its ticket counts, and
-- tickets never fall. The lengths of the order are the true ones.
pub record Stands {S : Type 0} (node : Node) (run : Run) (book : BookView S) : Type 0 where
  pub legal : IsLegalAfter node run.base run.accepted
  pub at : validator.AreAtSound node book.validator.tables (state_in node run)
  pub taken_begins : Begins run.taken run.accepted
  pub settled_begins : Begins run.settled run.taken
  pub pending : book.pending ≡ map record_of (drop (length run.taken) run.accepted)
  pub accepted : book.accepted ≡ length run.accepted
  pub taken : book.taken ≡ length run.taken
  pub settled : book.settled ≡ length run.settled
  pub rewriting : IfSome book.rewriting (λ count. (length run.settled ≤ count) × (count ≤ length run.taken))
  pub due : All (IsDue node run) book.queue
  pub rising : TicketsRise book.queue
  pub ordered : book.ordered ≡ length (settled_in node run).order
  pub lengths : (count : ℕ) → length run.settled ≤ count → count ≤ length run.accepted → length_at count book.ordered book.reached ≡ length (state_to node count run).order
  pub tickets : All (λ reached. reached.ticket ≤ length run.accepted) book.reached

-- ---- what an event changes

-- the book accepts a new event: the event's record is pending, and its outputs wait until the record is settled
pub record TakesNew {S : Type 0} (node : Node) (before later : BookView S) (event : Event) : Type 0 where
  pub taken_by : IsTaken node event
  pub outputs : List Output
  pub answer : (run : Run) → Stands node run before → answered node (state_in node run) event ≡ New outputs
  pub stands : (run : Run) → Stands node run before → Stands node (with_accepted run event) later
  pub queue : later.queue ≡ before.queue ++ ticketed (before.accepted + 1) outputs
  pub pending : later.pending ≡ before.pending ++ record_of event ∷ []
  pub accepted : later.accepted ≡ before.accepted + 1
  pub taken : later.taken ≡ before.taken
  pub settled : later.settled ≡ before.settled
  pub rewriting : later.rewriting ≡ before.rewriting
  pub down : later.down ≡ before.down

-- the book answers a known event: nothing changes, except that the event's outputs wait until all records accepted so far are settled
pub record TakesKnown {S : Type 0} (node : Node) (before later : BookView S) (event : Event) : Type 0 where
  pub taken_by : IsTaken node event
  pub outputs : List Output
  pub answer : (run : Run) → Stands node run before → answered node (state_in node run) event ≡ Known outputs
  pub stands : (run : Run) → Stands node run before → Stands node run later
  pub is : later ≡ record before { queue = before.queue ++ ticketed before.accepted outputs }

-- the event would be new, but the run has accepted as many records as it may
abbrev pub IsFull : {S : Type 0} → Node → Run → BookView S → Event → Type 0
IsFull node run book event = IsTrue (is_new (answered node (state_in node run) event)) × (book.accepted ≡ MAX_ACCEPTED)

-- the run may accept more records, or the event isn't new at the state that the validator holds
abbrev pub HasPlace : {S : Type 0} → Node → BookView S → Event → Type 0
HasPlace node book event = (book.accepted < MAX_ACCEPTED) ⊎ IsOld
  where
    IsOld : Type 0
    IsOld = (state : State) × validator.AreAtSound node book.validator.tables state × (is_new (answered node state event) ≡ false)

-- why an event may be refused: an allocation failed, the book is down, the run is full, or admission refuses it
abbrev pub MayRefuse : {S : Type 0} → Node → Run → BookView S → Event → Refusal → Type 0
MayRefuse node run book event Memory = ⊤
MayRefuse node run book event Down = book.down ≡ true
MayRefuse node run book event StoreFull = (answered node (state_in node run) event ≡ Refused StoreFull) ⊎ IsFull node run book event
MayRefuse node run book event refusal = answered node (state_in node run) event ≡ Refused refusal

-- ---- what goes out

-- the output that may leave the book now, if there is one: none while the book is down
abbrev pub releasable : {S : Type 0} → BookView S → Option Output
releasable book = if book.down then None else settled_head book.settled book.queue

-- the outputs that may leave the book now, oldest first, at most `room` of them: none while the book is down
abbrev pub releasable_within : {S : Type 0} → ℕ → BookView S → List Output
releasable_within room book = if book.down then [] else take room (settled_front book.settled book.queue)

-- These records are a checkpoint of this state: the node's configuration in the second version, followed by the records that the node
-- writes of the state.
pub record IsCheckpoint (node : Node) (state : State) (records : List (List ℕ)) : Type 0 where
  pub kept : Checkpoint
  pub written : IsWritten node kept
  pub is : checkpoint.state_in node kept ≡ state
  pub are : records ≡ configuration_of Second node.charter node.own ∷ state_records kept

-- for each run at which the book stands, these records are a checkpoint of the state after all accepted events
abbrev pub IsCheckpointOfAll : {S : Type 0} → Node → BookView S → List (List ℕ) → Type 0
IsCheckpointOfAll node book records = (run : Run) → Stands node run book → IsCheckpoint node (state_in node run) records

-- these records are what the next settling in a run is about. Without a rewriting they are the first records that are taken and not
-- settled; with one, they are a checkpoint of the state after as many events as the rewriting settles
abbrev pub Settles : Node → Run → Option ℕ → List (List ℕ) → Type 0
Settles node run None records = Begins records (map record_of (drop (length run.settled) run.taken))
Settles node run (Some count) records = IsCheckpoint node (state_to node count run) records

-- the run after the next settling: of a group of this many records; or of a rewriting, which settles all that was taken when it began
abbrev pub settled_by : Run → Option ℕ → ℕ → Run
settled_by run None count = with_settled run count
settled_by run (Some all) count = record run { settled = take all run.taken }

-- how many records are settled after the next settling: the given number, or with a rewriting all that it settles
abbrev pub settled_to : Option ℕ → ℕ → ℕ
settled_to None count = count
settled_to (Some all) count = all

-- at some run at which the book stands, these records are the next to be settled; a rewriting in flight comes before all groups
abbrev pub SettlesNext : {S : Type 0} → Node → BookView S → List (List ℕ) → Type 0
SettlesNext node book records = (run : Run) × Stands node run book × Settles node run book.rewriting records

-- an output goes out after the events that its ticket counts, all of which are settled. It may be given out after each legal history that
-- keeps the run's base, followed by all settled events
pub record GoesOutSettled (node : Node) (run : Run) (output : Output) : Type 0 where
  pub ticket : ℕ
  pub settled : ticket ≤ length run.settled
  pub goes_out : GoesOutAfter node run.base (take ticket run.accepted) output
  pub may : (history : History) → IsLegal node history → kept node history ≡ run.base → MayGive node (history ++ run.settled) output

-- the later book stands at each run at which the earlier book stood
abbrev pub StandsAsBefore : {S : Type 0} → Node → BookView S → BookView S → Type 0
StandsAsBefore node before later = (run : Run) → Stands node run before → Stands node run later
