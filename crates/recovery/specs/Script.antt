-- What a node of one owner does with a script of commands.
use Rattle.std.specs.Prelude.{◌≡◌, ◌≢◌, ◌⊎◌, ⊤, ℕ, ◌+◌, ◌<◌, Bool, true, false, List, [], ◌∷◌, ◌++◌, length, map, drop, Option, None, Result, Ok, IfOk, IfErr}
use Rattle.std.specs.Io.KnownBytes.{Keeps, Appends}
use Rattle.book.specs.Book.{BookView, Run, Stands}
use Rattle.desk.specs.Desk.{DeskView}
use Rattle.desk.specs.Disks.{AreReadAs, Leaves}
use Rattle.committee.specs.Charter.{Charter}
use Rattle.diskmodel.specs.Disk.{Device}
use Rattle.header.specs.Checks.{fault_of, accepts_all}
use Rattle.journal.specs.Format.{group_bytes, stands}
use Rattle.journal.specs.Areas.{Areas, alone, pair}
use Rattle.journal.specs.Journal.{disk_of, IsAlive}
use Rattle.journal.specs.Pairs.{areas_in, areas_of}
use Rattle.journal.specs.declared.error.Failed.{Failed}
use Rattle.journal.specs.declared.store.Store.{Store}
use Rattle.journal.specs.declared.store.Store.TheVariants.{One, Two}
use Rattle.journal.specs.declared.error.JournalError.{JournalError}
use Rattle.journal.specs.declared.error.JournalError.TheVariants as journal
use Rattle.journal.specs.declared.journal.Journal.{Journal}
use Rattle.journal.specs.declared.layout.TheConstants.{MAX_JOURNAL_BYTES}
use Rattle.wire.specs.Lists.{Begins}
use Rattle.spec_model.specs.Nodes.{Node}
use Rattle.spec_model.specs.States.{State}
use Rattle.spec_records.specs.Records.{record_of}
use Rattle.spec_world.specs.Runs.{AreKeys}
use Rattle.spec_world.specs.Text as script
use Rattle.recovery.specs.Faults.{ended_by}
use Rattle.opening.specs.Renewing.{HasBegun, IsFullOf, HasNoRoom as LacksRoom}
use Rattle.opening.specs.Decoded.{decoded_in, Reports, KeepsRecords}
use Rattle.recovery.specs.Writing.{EndsAtDisk}
use Rattle.recovery.specs.declared.driving.Command.{Command}
use Rattle.recovery.specs.declared.driving.Command.TheVariants.{Event, Flush, Checkpoint, Stop}
use Rattle.recovery.specs.declared.driving.DriveError.{DriveError}
use Rattle.recovery.specs.declared.driving.DriveError.TheVariants as ends
use Rattle.recovery.specs.declared.driving.DriveError.TheVariants.{Memory, Damaged, ConfigMismatch, Full, Output}

-- ---- commands

-- a command of the running code as the definition of a script has it; script_of: a list of them
abbrev pub said : Command → script.Command
said (Event event) = script.take_in event
said Flush = script.flush
said Checkpoint = script.checkpoint
said Stop = script.stop

abbrev pub script_of : List Command → List script.Command
script_of commands = map said commands

-- if the command hands in an event, that passed the checks of the committee, except those of signatures
abbrev pub Passes : Charter → Command → Type 0
Passes charter (Event event) = fault_of charter accepts_all event ≡ None
Passes charter other = ⊤

-- the store is on two disks
abbrev pub is_two : {D : Type 0} → Store D → Bool
is_two (One disk) = false
is_two (Two first second) = true

-- a node on one disk or two can carry out this command: a checkpoint needs two disks
abbrev pub CarriesOut : Bool → Command → Type 0
CarriesOut two Checkpoint = two ≡ true
CarriesOut two other = ⊤

-- a call that takes disks hands back as many, whatever its result
abbrev pub KeepsDisks : {T D E : Type 0} → (T → Store D) → Store D → Result T (Failed E (Store D)) → Type 0
KeepsDisks disks_in store result = IfOk result (λ given. is_two (disks_in given) ≡ is_two store) × IfErr result (λ failed. is_two failed.disk ≡ is_two store)

-- ---- a node between two commands

-- the run of a book whose owner settles at once whatever it takes
abbrev pub run_of : script.Desk → Run
run_of desk = record { base = desk.base; accepted = desk.accepted; taken = desk.settled; settled = desk.settled }

-- A book and a journal are in the situation of a desk, as scripts see a node: the book stands at the desk's run and queues the outputs that
-- wait there; the journal can be appended to, has the configuration, and decodes to the state after what is settled.
pub record IsOf {S D : Type 0} (node : Node) (device : Device D) (desk : script.Desk) (book : BookView S) (journal : Journal D) : Type 0 where
  pub stands_at : Stands node (run_of desk) book
  pub waits : book.queue ≡ desk.waiting
  pub up : book.down ≡ false
  pub alive : IsAlive device journal
  pub begun : HasBegun device journal
  pub keys : AreKeys node
  pub configured : stands (device.content (disk_of journal)) ≢ Ok []
  pub read_as : AreReadAs node (areas_of device journal) (script.settled_in node desk)

-- if the node before was in the situation of some desk of a script, the node later is in that of the desk which `next` makes of it
abbrev pub Follows : {S D : Type 0} → Node → Device D → (script.Desk → script.Desk) → DeskView S D → DeskView S D → Type 0
Follows node device next before later =
    (desk : script.Desk) → IsOf node device desk before.book before.journal → IsOf node device (next desk) later.book later.journal

-- a book and a journal belong to a run that began with the state that these areas decoded to
pub record IsOpenedOf {S D : Type 0} (node : Node) (device : Device D) (before : Areas) (book : BookView S) (journal : Journal D) : Type 0 where
  pub state : State
  pub decoded_first : decoded_in node before ≡ Ok state
  pub is_of : IsOf node device (script.desk_on state) book journal

-- ---- how a script ends

-- The whole script was carried out. What was written is its text, from the state on that the disks decoded to. The disks now decode to the
-- state after what is settled, and so does whatever a stop leaves of them.
pub record HasRun (node : Node) (commands : List script.Command) (before later : Areas) (possible : Areas → Type 0) (old new : Option (List ℕ)) : Type 0 where
  pub state : State
  pub decoded_first : decoded_in node before ≡ Ok state
  pub writes : Appends old new (script.text node (script.desk_on state) commands)
  pub decoded_later : decoded_in node later ≡ Ok (script.settled_in node (script.desk_after node (script.desk_on state) commands))
  pub durable : (areas : Areas) → possible areas → areas ≡ later

-- two areas are a journal in version 1, and its checkpoint has no room
abbrev pub IsFull : Node → Areas → Type 0
IsFull node (alone bytes) = ⊥
IsFull node (pair one other) = IsFullOf node one other

-- The node could not be opened. The error says what is wrong with the areas, unless an allocation or a disk failed or the checkpoint of a
-- journal in version 1 had no room. What a stop leaves decodes to the same as some outcome from before. Of one disk it is such an outcome
-- byte for byte, or has the records of one, or only the configuration if that had no records.
pub record IsNotOpened (node : Node) (error : DriveError) (before : Areas) (possible later : Areas → Type 0) : Type 0 where
  pub cause : JournalError
  pub is : error ≡ ended_by cause
  pub reports : cause ≢ journal.Device → cause ≢ journal.Full → Reports cause (decoded_in node before)
  pub full : cause ≡ journal.Full → IsFull node before
  pub left : (areas : Areas) → later areas → (first : Areas) × possible first × (decoded_in node areas ≡ decoded_in node first)
  pub keeps : (bytes : List ℕ) → later (alone bytes) → KeepsRecords node (λ one. possible (alone one)) bytes

-- the node could not be opened, and nothing was written
abbrev pub IsUnopened : Node → DriveError → Areas → (Areas → Type 0) → (Areas → Type 0) → Option (List ℕ) → Option (List ℕ) → Type 0
IsUnopened node error before possible later old new = IsNotOpened node error before possible later × Keeps old new

-- these bytes are those of one of the journal's areas
abbrev pub IsAreaOf : Areas → List ℕ → Type 0
IsAreaOf (alone bytes) file = file ≡ bytes
IsAreaOf (pair one other) file = (file ≡ one) ⊎ (file ≡ other)

-- The journal has no room: for the group of a flush, after the area that is read; or for a checkpoint of all accepted events, which is too
-- long or would need a generation after the last one.
pub data HasNoRoom (node : Node) (desk : script.Desk) (areas : Areas) (command : script.Command) : Type 0 where
  for_group : (file : List ℕ) → command ≡ script.flush → IsAreaOf areas file
      → MAX_JOURNAL_BYTES < length file + length (group_bytes (map record_of (script.group_of (drop (length desk.settled) desk.accepted))))
      → HasNoRoom node desk areas command
  for_checkpoint : (generation : ℕ) → command ≡ script.checkpoint → LacksRoom node generation (script.state_in node desk) → HasNoRoom node desk areas command

-- a command makes device calls; only one that hands in an event makes none
abbrev pub CallsDisk : script.Command → Type 0
CallsDisk (script.take_in event) = ⊥
CallsDisk other = ⊤

-- a command may find the journal full: a flush, or a checkpoint
abbrev pub NeedsRoom : script.Command → Type 0
NeedsRoom script.flush = ⊤
NeedsRoom script.checkpoint = ⊤
NeedsRoom other = ⊥

-- The errors that may end a command. An allocation or the writer may fail at any command; the disk at one that makes device calls; the
-- journal may be full at a flush or a checkpoint. Damage and another configuration are found when the node is opened, before the first
-- command.
abbrev pub MayEnd : script.Command → DriveError → Type 0
MayEnd command Memory = ⊤
MayEnd command Output = ⊤
MayEnd command ends.Device = CallsDisk command
MayEnd command Full = NeedsRoom command
MayEnd command (Damaged place) = ⊥
MayEnd command ConfigMismatch = ⊥

-- A command failed at a desk. Whatever a stop then leaves decodes to the state after what was settled before the command, or after the
-- command.
pub record Breaks (node : Node) (desk : script.Desk) (command : script.Command) (error : DriveError) (later : Areas) (possible : Areas → Type 0) : Type 0 where
  pub left : (areas : Areas) → possible areas
      → (decoded_in node areas ≡ Ok (script.settled_in node desk)) ⊎ (decoded_in node areas ≡ Ok (script.settled_in node (script.after node desk command)))
  pub errors : MayEnd command error
  pub full : error ≡ Full → HasNoRoom node desk later command

-- whichever desk of a script this node was in the situation of, the command failed there with this error, and left these disks
abbrev pub BreaksOff : {S D : Type 0} → Node → Device D → script.Command → DeskView S D → DriveError → Store D → Type 0
BreaksOff node device command before error store =
    (desk : script.Desk) → IsOf node device desk before.book before.journal → Breaks node desk command error (areas_in device store) (Leaves device store)

-- Some of the commands were carried out, and the next one failed. What was written is the text of the first ones, and a prefix of what the
-- next one would write: not all of it if the writer failed, and nothing of it if the disk failed or the journal was full.
pub record IsCutShort (node : Node) (commands : List script.Command) (error : DriveError) (before later : Areas) (possible : Areas → Type 0) (old new : Option (List ℕ)) : Type 0 where
  pub state : State
  pub decoded_first : decoded_in node before ≡ Ok state
  pub done : List script.Command
  pub next : script.Command
  pub rest : List script.Command
  pub parts : commands ≡ done ++ next ∷ rest
  pub written : List ℕ
  pub writes : Appends old new written
  pub no_less : Begins (script.text node (script.desk_on state) done) written
  pub no_more : Begins written (script.text node (script.desk_on state) (done ++ next ∷ []))
  pub less : error ≡ Output → length written < length (script.text node (script.desk_on state) (done ++ next ∷ []))
  pub nothing : EndsAtDisk error → written ≡ script.text node (script.desk_on state) done
  pub breaks : Breaks node (script.desk_after node (script.desk_on state) done) next error later possible
