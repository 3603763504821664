-- What the bytes of a node's journal decode to: the node's state after the events in them, or the reason why they are no journal of this
-- node.
use Rattle.std.specs.Prelude.{◌≡◌, ◌≢◌, ◌⊎◌, All, ℕ, ◌==◌, ◌&&◌, not, nat_lt, Bool, true, false, List, [], ◌∷◌, length, map, drop, get_or, Option, Some}
use Rattle.std.specs.Prelude.{None, is_none, Result, Ok, Err, slice_index, if◌then◌else◌}
use Rattle.std.specs.Int.{w16, from_be_bytes}
use Rattle.std.specs.List.{list_all}
use Rattle.std.specs.Option.{option_map_or}
use Rattle.std.specs.Str.{bytes_eq}
use Rattle.admission.specs.declared.step.Step.{Step}
use Rattle.admission.specs.declared.step.Step.TheVariants.{New, Known}
use Rattle.committee.specs.Charter.{Charter}
use Rattle.diskmodel.specs.Outcomes.{AreBytes}
use Rattle.header.specs.Checks.{fault_of, accepts_all}
use Rattle.journal.specs.Areas.{Areas, alone, pair, stands_in}
use Rattle.journal.specs.Configuration.{shaped_version}
use Rattle.journal.specs.Format.{kept_at, stands}
use Rattle.journal.specs.Journal.{HaveSameRecords}
use Rattle.journal.specs.declared.error.JournalError.{JournalError}
use Rattle.journal.specs.declared.error.JournalError.TheVariants.{Memory, Damaged, ConfigMismatch}
use Rattle.journal.specs.declared.record.Record.{Record}
use Rattle.spec_checkpoint.specs.Data.{Checkpoint}
use Rattle.spec_checkpoint.specs.Loading.{LoadFault, at_record, of_whole, load_fault}
use Rattle.spec_checkpoint.specs.Meaning.{state_in}
use Rattle.spec_checkpoint.specs.Reading.{kind_of, checkpoint_read}
use Rattle.spec_machine.specs.Machine.{after, answered, fresh}
use Rattle.spec_model.specs.Admitting.{is_new}
use Rattle.spec_model.specs.Nodes.{Node}
use Rattle.spec_model.specs.States.{State}
use Rattle.spec_model.specs.Words.{Author, Event, Message}
use Rattle.header.specs.declared.refusal.Refusal.{Refusal}
use Rattle.header.specs.declared.refusal.Refusal.TheVariants as refusals
use Rattle.spec_records.specs.Records.{configuration_of}
use Rattle.spec_world.specs.World.{bytes_of}
use Rattle.journal.specs.declared.version.Version.{Version}
use Rattle.journal.specs.declared.version.Version.TheVariants.{First, Second}
use Rattle.opening.specs.declared.events.TheConstants.{EVENT, FRONT_BYTES}
use Rattle.admission.specs.declared.tables.Tables.{Tables}
use Rattle.validator.specs.Standing.{AreAtSound}
use Rattle.wire.specs.Reading.{message_of}
use Rattle.wire.specs.declared.error.WireError.{WireError}

-- ---- the events of records

-- each byte of a record is a number below 256
abbrev pub IsText : Record → Type 0
IsText one = AreBytes one.bytes

-- the event, if it passes the checks of the committee; signatures are not checked
abbrev pub if_passed : Charter → Event → Option Event
if_passed charter event = if is_none (fault_of charter accepts_all event) then Some event else None

-- the event with this sender and message; None if the message could not be decoded or the event fails a check
abbrev pub checked_in : Charter → Author → Result Message WireError → Option Event
checked_in charter sender (Ok message) = if_passed charter (record { sender = sender; message = message })
checked_in charter sender (Err fault) = None

-- the sender that an event's record names in its second and third byte
abbrev pub sender_in : List ℕ → Author
sender_in bytes = record { 0 = from_be_bytes w16 (slice_index bytes 1 ∷ slice_index bytes 2 ∷ []) }

-- the event of a record; None if the record is of another kind, its message can't be decoded, or the event fails a check
unfoldable pub event_in : Charter → List ℕ → Option Event
event_in charter bytes =
    if nat_lt (length bytes) FRONT_BYTES then None
    else if not (slice_index bytes 0 == EVENT) then None
    else checked_in charter (sender_in bytes) (message_of (drop FRONT_BYTES bytes))

-- the state after an event; None if the event is not new at this state
abbrev pub with_new : Node → State → Event → Option State
with_new node state event = if is_new (answered node state event) then Some (after node state event) else None

-- the state after the event of a record; the place of the record's group if it has no event, or one that is not new
unfoldable pub read_event : Node → State → Record → Result State ℕ
read_event node state kept =
    option_map_or (λ event. option_map_or (λ later. Ok later) (with_new node state event) (Err kept.gate)) (event_in node.charter kept.bytes) (Err kept.gate)

-- continues a reading from the state that it has reached; if it has failed already, its error stays
abbrev pub go_on : (State → Result State ℕ) → Result State ℕ → Result State ℕ
go_on read (Ok state) = read state
go_on read (Err place) = Err place

-- the state after the events of these records, in their order; the place of the group of the first record that is at fault
unfoldable pub read_events : Node → State → List Record → Result State ℕ
read_events node state [] = Ok state
read_events node state (kept ∷ rest) = go_on (λ later. read_events node later rest) (read_event node state kept)

-- ---- the configuration, which is the first record

-- no record after the first one is in the first group, whose gate is at the place 0
abbrev pub is_alone : List Record → Bool
is_alone events = list_all (λ kept. nat_lt 0 kept.gate) events

-- the stake of each member is 1
abbrev pub has_ones : Charter → Bool
has_ones charter = list_all (λ stake. stake == 1) charter.stakes

-- a configuration in this version can express the committee: version 1 has no stakes, so each stake has to be 1
abbrev pub can_report : Version → Charter → Bool
can_report First charter = has_ones charter
can_report Second charter = true

-- ---- a journal on one disk

-- the version of the configuration that the first record has the form of; None if it has no such form, or isn't alone in its group
abbrev pub first_version : Record → List Record → Option Version
first_version first events = if is_alone events then shaped_version first.bytes else None

-- these bytes are the record of the node's own configuration, in a version that can express its committee
abbrev pub is_own : Node → List ℕ → Version → Bool
is_own node bytes version = can_report version node.charter && bytes_eq bytes (configuration_of version node.charter node.own)

-- ConfigMismatch if a configuration isn't the node's own, and no error if it is
abbrev pub mismatch : Bool → Option JournalError
mismatch own = if own then None else Some ConfigMismatch

-- what is wrong with the first record: it is no configuration alone in its group (damaged), or isn't the node's own (mismatch)
abbrev pub first_fault : Node → Record → List Record → Option JournalError
first_fault node first events = option_map_or (λ version. mismatch (is_own node first.bytes version)) (first_version first events) (Some (Damaged first.gate))

-- what is wrong with the first record of a journal on two disks: it is no configuration, or not the node's own. Others may share its group
abbrev pub own_fault : Node → Record → Option JournalError
own_fault node first = option_map_or (λ version. mismatch (is_own node first.bytes version)) (shaped_version first.bytes) (Some (Damaged first.gate))

-- the result of a reading, with its error as damage at the place that it names
abbrev pub or_damaged : Result State ℕ → Result State JournalError
or_damaged (Ok state) = Ok state
or_damaged (Err place) = Err (Damaged place)

-- the fault of the first record, if it has one; otherwise the result of reading the others
abbrev pub unless : Option JournalError → Result State ℕ → Result State JournalError
unless (Some error) read = Err error
unless None read = or_damaged read

-- the state that the records of a journal lead to, or what is wrong with them. A journal without records leads to the fresh state
unfoldable pub read_journal : Node → List Record → Result State JournalError
read_journal node [] = Ok (fresh node)
read_journal node (first ∷ events) = unless (first_fault node first events) (read_events node (fresh node) events)

-- the state that a journal leads to, or what is wrong with it, given the result of reading its groups
abbrev pub decoded_by : Node → Result (List Record) ℕ → Result State JournalError
decoded_by node (Ok records) = read_journal node records
decoded_by node (Err place) = Err (Damaged place)

-- the state that the bytes of a journal on one disk decode to, or what is wrong with them
unfoldable pub decoded : Node → List ℕ → Result State JournalError
decoded node bytes = decoded_by node (stands bytes)

-- ---- a journal on two disks

-- a head (the record of the generation) follows the first record: the second record is in the same group
abbrev pub has_head : Record → List Record → Bool
has_head first [] = false
has_head first (second ∷ rest) = second.gate == first.gate

-- the first byte of a record says that it holds an event
abbrev pub is_event : Record → Bool
is_event one = kind_of one.bytes == EVENT

-- the records before that of the first event: those of the state that a checkpoint holds
unfoldable pub state_part : List Record → List Record
state_part [] = []
state_part (one ∷ rest) = if is_event one then [] else one ∷ state_part rest

-- the records from that of the first event on
unfoldable pub events_part : List Record → List Record
events_part [] = []
events_part (one ∷ rest) = if is_event one then one ∷ rest else events_part rest

-- the places of the gates of these records' groups
abbrev pub gates_of : List Record → List ℕ
gates_of records = map (λ one. one.gate) records

-- the first of these places, or 0 if there is none
abbrev pub first_of : List ℕ → ℕ
first_of gates = get_or gates 0 0

-- the gate that is reported for a fault of records with these gates: that of the record at fault, or the first one if only all records
-- together are at fault
abbrev pub gate_of : List ℕ → LoadFault → ℕ
gate_of gates (at_record place) = get_or gates place (first_of gates)
gate_of gates of_whole = first_of gates

-- the state of a checkpoint. Its records were tested before, so they always decode
abbrev pub loaded : Node → ℕ → Result Checkpoint ℕ → Result State ℕ
loaded node gate (Ok checkpoint) = Ok (state_in node checkpoint)
loaded node gate (Err place) = Err gate

-- the state that the records of a checkpoint decode to, given the configuration before them; the gate of the first fault
unfoldable pub read_state : Node → Record → List Record → Result State ℕ
read_state node first state =
    option_map_or (λ fault. Err (gate_of (gates_of (first ∷ state)) fault)) (load_fault node (bytes_of (first ∷ state)))
    (loaded node first.gate (checkpoint_read node (bytes_of state)))

-- the state after a checkpoint, whose records come first, and then after the events that follow it
unfoldable pub read_checkpoint : Node → Record → List Record → Result State ℕ
read_checkpoint node first records =
    go_on (λ state. read_events node state (events_part records)) (read_state node first (state_part records))

-- the state after all records but the first: either a head, a checkpoint's state and events, or events alone
abbrev pub read_after : Node → Record → List Record → Result State ℕ
read_after node first rest = if has_head first rest then read_checkpoint node first (drop 1 rest) else read_events node (fresh node) rest

-- the state that the records of the area that is read lead to, or what is wrong with them. Without a record it is the fresh state
unfoldable pub read_pair : Node → List Record → Result State JournalError
read_pair node [] = Ok (fresh node)
read_pair node (first ∷ rest) = unless (own_fault node first) (read_after node first rest)

-- the state that two areas lead to, or what is wrong with them, given the result of reading their groups
abbrev pub decoded_by_both : Node → Result (List Record) ℕ → Result State JournalError
decoded_by_both node (Ok records) = read_pair node records
decoded_by_both node (Err place) = Err (Damaged place)

-- the state that a journal on one disk or on two decodes to, or why its bytes are no journal of this node
abbrev pub decoded_in : Node → Areas → Result State JournalError
decoded_in node (alone bytes) = decoded node bytes
decoded_in node (pair one other) = decoded_by_both node (stands_in (pair one other))

-- ---- what the calls of an opening report

-- the error of an opening is what is wrong with the bytes, unless an allocation failed
abbrev pub Reports : {X : Type 0} → JournalError → Result X JournalError → Type 0
Reports Memory read = Unit {0}
Reports error read = read ≡ Err error

-- bytes were read as a sound state (one from which a node can go on), and the tables of the validator hold that state
pub record StandsAt {E : Type 0} (node : Node) (read : Result State E) (tables : Tables) : Type 0 where
  pub state : State
  pub is_read : read ≡ Ok state
  pub at : AreAtSound node tables state

-- the answer to an event is not that the event is new
abbrev pub IsOld : Result Step Refusal → Type 0
IsOld (Ok (New outputs)) = ⊥
IsOld (Ok (Known outputs)) = Unit {0}
IsOld (Err refusal) = refusal ≢ refusals.Memory

-- each byte of the records that these bytes are read as, after the first record, is a number below 256
abbrev pub HasTexts : List ℕ → Type 0
HasTexts file = (records : List Record) → stands file ≡ Ok records → All IsText (drop 1 records)

-- an opening keeps the records of the file, even those of another node. Or the file had none, and then it has the node's configuration in
-- this version as its only record.
abbrev pub KeepsOrBegins : Version → Node → List ℕ → List ℕ → Type 0
KeepsOrBegins version node file left = HaveSameRecords file left ⊎ ((stands file ≡ Ok []) × (stands left ≡ Ok (kept_at 0 (configuration_of version node.charter node.own) ∷ [])))

-- what a stop leaves is one of these outcomes byte for byte, or is read as the same records as one of them. If the outcome had no records,
-- the node's configuration may have been added
abbrev pub KeepsRecords : Node → (List ℕ → Type 0) → List ℕ → Type 0
KeepsRecords node outcome left = outcome left ⊎ ((first : List ℕ) × outcome first × KeepsOrBegins Second node first left)

-- what a stop leaves decodes to the same state or error as one of these outcomes does
abbrev pub IsDecodedAsOneOf : Node → (List ℕ → Type 0) → List ℕ → Type 0
IsDecodedAsOneOf node outcome left = (first : List ℕ) × outcome first × (decoded node left ≡ decoded node first)
