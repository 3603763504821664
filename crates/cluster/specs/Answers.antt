-- What a move does to a member of the cluster, and what the move is answered.
use Rattle.std.specs.Prelude.{◌≡◌, ◌≢◌, ◌⊎◌, ◌↔◌, ◌<◌, ⊤, ℕ, ◌+◌, ◌-◌, Bool, true, false, List, [], ◌∷◌, length, Some, None, Result, Ok, Err, IfOk, IfErr, IsErrOf}
use Rattle.book.specs.Book.{Run, Stands, TakesNew, TakesKnown, MayRefuse}
use Rattle.book.specs.InFlight.{Flushes, GoesDown, HasRoomFor}
use Rattle.book.specs.declared.own.error.FlushError.{FlushError}
use Rattle.book.specs.declared.own.error.FlushError.TheVariants as flush
use Rattle.desk.specs.AtWorld.{IsAt, IsStop}
use Rattle.desk.specs.Desk.{DeskView, IsOpened}
use Rattle.header.specs.Checks.{Accepts, fault_of}
use Rattle.header.specs.declared.error.CheckError.{CheckError}
use Rattle.journal.specs.Areas.{alone}
use Rattle.journal.specs.Format.{stands}
use Rattle.journal.specs.Journal.{disk_of}
use Rattle.journal.specs.declared.error.JournalError.TheVariants as journal
use Rattle.journal.specs.declared.record.Record.{Record}
use Rattle.opening.specs.Laws.{IsNoRefusal}
use Rattle.spec_model.specs.Nodes.{Node}
use Rattle.spec_model.specs.Words.{Event}
use Rattle.header.specs.declared.refusal.Refusal.{Refusal}
use Rattle.header.specs.declared.refusal.Refusal.TheVariants as refusal
use Rattle.spec_world.specs.Steps.{Move, accept, take_to, device_call, settle, Leads}
use Rattle.spec_world.specs.World.{World}
use Rattle.cluster.specs.Member.{MemberView, StandsAt, HasCollected, HasCollectedSome}
use Rattle.cluster.specs.declared.error.ClusterError.{ClusterError}
use Rattle.cluster.specs.declared.error.ClusterError.TheVariants as errors
use Rattle.cluster.specs.declared.moves.Applied.{Applied}
use Rattle.cluster.specs.declared.moves.Applied.TheVariants.{Took, Refused, Unchecked, Settled, Fault, Reopened}
use Rattle.cluster.specs.declared.moves.Request.{Request}
use Rattle.cluster.specs.declared.moves.Request.TheVariants.{Take, Round, Stop}
use Rattle.diskmodel.specs.Disk.{Device}

-- one thing that a desk (a node of one owner) did: its world before, the moves that the world made, and the desk before and after
pub record Deed (S D : Type 0) : Type 0 where
  pub world : World
  pub moves : List Move
  pub before : DeskView S D
  pub later : DeskView S D

-- ---- an event comes in

-- a desk that is up accepted the event: as new, or as one that it knows and that changes nothing
pub record IsTaken {S D : Type 0} (node : Node) (accepts : Accepts) (event : Event) (ticket : ℕ) (new : Bool) (deed : Deed S D) : Type 0 where
  pub passed : fault_of node.charter accepts event ≡ None
  pub up : deed.before.book.down ≡ false
  pub takes_new : new ≡ true → TakesNew node deed.before.book deed.later.book event
  pub takes_known : new ≡ false → TakesKnown node deed.before.book deed.later.book event
  pub counted : ticket ≡ deed.later.book.accepted
  pub by : deed.moves ≡ accept event ∷ []

-- the desk refused an event that passed the checks: admission refuses it, or the desk is down. The desk didn't change
pub record IsRefused {S D : Type 0} (node : Node) (accepts : Accepts) (event : Event) (why : Refusal) (deed : Deed S D) : Type 0 where
  pub passed : fault_of node.charter accepts event ≡ None
  pub not_memory : why ≢ refusal.Memory
  pub down : (why ≡ refusal.Down) ↔ (deed.before.book.down ≡ true)
  pub may : (run : Run) → Stands node run deed.before.book → MayRefuse node run deed.before.book event why
  pub same : deed.later ≡ deed.before
  pub by : deed.moves ≡ []

-- the event failed a check before it reached the desk; `error` is the first check that it fails
pub record IsUnchecked {S D : Type 0} (node : Node) (accepts : Accepts) (event : Event) (error : CheckError) (deed : Deed S D) : Type 0 where
  pub fault : fault_of node.charter accepts event ≡ Some error
  pub same : deed.later ≡ deed.before
  pub by : deed.moves ≡ []

abbrev pub TakesIn : {S D : Type 0} → Node → Accepts → Event → Applied → Deed S D → Type 0
TakesIn node accepts event (Took ticket new) deed = IsTaken node accepts event ticket new deed
TakesIn node accepts event (Refused why) deed = IsRefused node accepts event why deed
TakesIn node accepts event (Unchecked error) deed = IsUnchecked node accepts event error deed
TakesIn node accepts event other deed = ⊥

-- ---- a round of take, append and settle

-- a desk that is up wrote and settled `count` records: the longest prefix of its pending records that fits a group, or none if none was
-- pending
pub record IsSettled {S D : Type 0} (node : Node) (device : Device D) (count : ℕ) (deed : Deed S D) : Type 0 where
  pub up : deed.before.book.down ≡ false
  pub idle : deed.before.book.pending ≡ [] → (count ≡ 0) × (deed.later ≡ deed.before) × (deed.moves ≡ [])
  pub flushes : deed.before.book.pending ≢ []
      → Flushes node deed.before.book deed.later.book (device.content (disk_of deed.before.journal)) (device.content (disk_of deed.later.journal)) count
  pub by : deed.before.book.pending ≢ []
      → deed.moves ≡ take_to (length deed.world.settled + count) ∷ device_call ∷ device_call ∷ device_call ∷ device_call ∷ settle ∷ []

-- a round took the desk down: it took a group, whose append failed; the group counts as in flight from then on
pub record IsTakenDown {S D : Type 0} (node : Node) (device : Device D) (error : FlushError) (deed : Deed S D) : Type 0 where
  pub down : GoesDown node deed.before.book deed.later.book
  pub full : error ≡ flush.Full → HasRoomFor down.group (device.content (disk_of deed.before.journal)) → ⊥
  pub room : error ≡ flush.Device → HasRoomFor down.group (device.content (disk_of deed.before.journal))
  pub count : ℕ
  pub by : deed.moves ≡ take_to count ∷ []

-- a round failed. The answer is Down if and only if the desk was down already. After Down, and after a failed allocation, the desk is as
-- before; after any other error it is down
pub record IsFault {S D : Type 0} (node : Node) (device : Device D) (error : FlushError) (deed : Deed S D) : Type 0 where
  pub was_down : (error ≡ flush.Down) ↔ (deed.before.book.down ≡ true)
  pub unchanged : (error ≡ flush.Down) ⊎ (error ≡ flush.Memory) → (deed.later ≡ deed.before) × (deed.moves ≡ [])
  pub taken_down : (error ≡ flush.Full) ⊎ (error ≡ flush.Device) → IsTakenDown node device error deed

abbrev pub MakesRound : {S D : Type 0} → Node → Device D → Applied → Deed S D → Type 0
MakesRound node device (Settled count) deed = IsSettled node device count deed
MakesRound node device (Fault error) deed = IsFault node device error deed
MakesRound node device other deed = ⊥

-- the answer of a round is that a call on the disk failed
abbrev pub IsDeviceFault : Applied → Type 0
IsDeviceFault (Fault flush.Device) = ⊤
IsDeviceFault other = ⊥

-- a member's disk has counted more failed calls after than before
pub record HasFailed {S D : Type 0} (device : Device D) (before later : MemberView S D) : Type 0 where
  pub desk : DeskView S D
  pub next : DeskView S D
  pub was : before.desk ≡ Some desk
  pub is : later.desk ≡ Some next
  pub more : device.faults (disk_of desk.journal) < device.faults (disk_of next.journal)

-- ---- a stop

-- how many events a journal has whose bytes are read as these records: all records but the first, which is the configuration
abbrev pub events_among : Result (List Record) ℕ → ℕ
events_among (Ok records) = length records - 1
events_among (Err place) = 0

abbrev pub events_in : List ℕ → ℕ
events_in bytes = events_among (stands bytes)

-- the machine stopped and left one of its disk's possible outcomes; the node was opened again on that, with a journal of `count` events
pub record IsReopened {S D : Type 0} (node : Node) (device : Device D) (count : ℕ) (deed : Deed S D) : Type 0 where
  pub found : List ℕ
  pub left : device.outcome (disk_of deed.before.journal) found
  pub opened : IsOpened node device (alone found) deed.later
  pub counted : count ≡ events_in found
  pub by : IsStop deed.world deed.moves

abbrev pub Stops : {S D : Type 0} → Node → Device D → Applied → Deed S D → Type 0
Stops node device (Reopened count) deed = IsReopened node device count deed
Stops node device other deed = ⊥

-- ---- all requests, and what goes out after them

-- what a desk did when this request got this answer
abbrev pub Does : {S D : Type 0} → Node → Device D → Accepts → Request → Applied → Deed S D → Type 0
Does node device accepts (Take sender given) applied deed = TakesIn node accepts (record { sender = sender; message = given }) applied deed
Does node device accepts Round applied deed = MakesRound node device applied deed
Does node device accepts Stop applied deed = Stops node device applied deed

-- the desk did nothing at all, or did what `Done` says
abbrev pub OrNothing : {S D : Type 0} → (Deed S D → Type 0) → Deed S D → Type 0
OrNothing Done deed = ((deed.moves ≡ []) × (deed.later ≡ deed.before)) ⊎ Done deed

-- a desk did what `Done` says, by moves of its world at which nothing goes out
pub record HasMoved {S D : Type 0} (node : Node) (device : Device D) (Done : Deed S D → Type 0) (world : World) (before later : DeskView S D) : Type 0 where
  pub moves : List Move
  pub does : Done (record { world = world; moves = moves; before = before; later = later })
  pub to : World
  pub leads : Leads node world moves to
  pub at : IsAt node device to later
  pub quiet : to.given ≡ world.given

-- A member's desk did what `Done` says, and then all outputs that may go out went out. The member stands at the world that this led to.
pub record Makes {S D : Type 0} (node : Node) (device : Device D) (Done : Deed S D → Type 0) (world : World) (before later : MemberView S D) : Type 0 where
  pub desk : DeskView S D
  pub middle : DeskView S D
  pub next : DeskView S D
  pub was : before.desk ≡ Some desk
  pub is : later.desk ≡ Some next
  pub setting : later.setting ≡ before.setting
  pub moved : HasMoved node device Done world desk middle
  pub collected : HasCollected node device moved.to middle next before.out later.out
  pub stands : StandsAt node device collected.to later

-- An allocation failed: the desk did what `Done` says or nothing, and some of the outputs that may then go out still wait at the desk.
pub record MakesSome {S D : Type 0} (node : Node) (device : Device D) (Done : Deed S D → Type 0) (world : World) (before later : MemberView S D) : Type 0 where
  pub desk : DeskView S D
  pub middle : DeskView S D
  pub next : DeskView S D
  pub was : before.desk ≡ Some desk
  pub is : later.desk ≡ Some next
  pub setting : later.setting ≡ before.setting
  pub moved : HasMoved node device (OrNothing Done) world desk middle
  pub collected : HasCollectedSome node device moved.to middle next before.out later.out
  pub stands : StandsAt node device collected.to later

-- the error is that a node could not be opened
abbrev pub IsJournal : ClusterError → Type 0
IsJournal (errors.Journal cause) = ⊤
IsJournal other = ⊥

-- the error says that a journal could not be opened because an allocation or the disk failed
abbrev pub IsJournalFault : ClusterError → Type 0
IsJournalFault (errors.Journal cause) = IsNoRefusal cause
IsJournalFault other = ⊥

-- this disk, in some later state, has counted more failed calls
abbrev pub CountsMore : {D : Type 0} → Device D → D → Type 0
CountsMore {D} device disk = (later : D) × (device.faults disk < device.faults later)

-- a node is gone, since it could not be opened after a stop; what it gave out before is still recorded
pub record IsGone {S D : Type 0} (before later : MemberView S D) : Type 0 where
  pub gone : later.desk ≡ None
  pub setting : later.setting ≡ before.setting
  pub out : later.out ≡ before.out

-- After a stop the node could not be opened, and is gone. If it stood at a world before, the reason was a failed allocation or a failed
-- disk; the error names the disk only if that counted a failed call.
pub record IsLost {S D : Type 0} (node : Node) (disks : Device D) (error : ClusterError) (before later : MemberView S D) : Type 0 where
  pub gone : IsGone before later
  pub desk : DeskView S D
  pub was : before.desk ≡ Some desk
  pub device : error ≡ errors.Journal journal.Device → CountsMore disks (disk_of desk.journal)
  pub fault : (world : World) → StandsAt node disks world before → IsJournalFault error

-- ---- what becomes of a request

-- What became of a member at a request, for each answer that the request can get.
pub record Became {S D : Type 0} (node : Node) (device : Device D) (accepts : Accepts) (request : Request) (before later : MemberView S D) (answer : Result Applied ClusterError) : Type 0 where
  -- Ok: the member's desk did what was asked, and then all outputs that may go out went out
  pub ok : IfOk answer (λ applied. (world : World) → StandsAt node device world before → Makes node device (Does node device accepts request applied) world before later)
  -- Memory: an allocation failed, before or after the desk did what was asked
  pub memory : IsErrOf answer errors.Memory → (world : World) → StandsAt node device world before
      → (applied : Applied) × MakesSome node device (Does node device accepts request applied) world before later
  -- a round is answered Device only if the disk counted a failed call
  pub fault : request ≡ Round → IfOk answer (λ applied. IsDeviceFault applied → HasFailed device before later)
  -- Journal: only a stop gets this error; the node could not be opened afterwards, and is gone
  pub lost : IfErr answer (λ error. IsJournal error → (request ≡ Stop) × IsLost node device error before later)
  -- NoSuchNode: the node is gone already, and nothing changes
  pub gone : IsErrOf answer errors.NoSuchNode ↔ (before.desk ≡ None)
  pub same : IsErrOf answer errors.NoSuchNode → later ≡ before
  pub never : IsErrOf answer errors.NoSuchOutput → ⊥
  pub setting : later.setting ≡ before.setting
