-- A node's world, the model of all its runs: what it accepted, what of that is on its disks, and what it gave out.
use Rattle.std.specs.Prelude.{◌≡◌, ⊤, ℕ, ◌-◌, ◌<◌, List, [], ◌∷◌, ◌++◌, map, length, take, drop, slice_get, Option, Some, None, Result, Ok, All, IfSome}
use Rattle.std.specs.List.{flat_map}
use Rattle.std.specs.Option.{option_map, option_map_or, option_and_then}
use Rattle.diskmodel.specs.Outcomes.{AreBytes, IsOutcome, state}
use Rattle.diskmodel.specs.declared.call.Call.{Call}
use Rattle.diskmodel.specs.declared.call.Call.TheVariants.{Wrote, Synced}
use Rattle.journal.specs.Areas.{Areas, alone, pair, pair_of, reports, stands_in, head_record, IsAtRest, rewrite_calls}
use Rattle.journal.specs.Format.{group_bytes, stands}
use Rattle.journal.specs.Journal.{EndsClosed}
use Rattle.journal.specs.declared.layout.TheConstants.{OPEN}
use Rattle.journal.specs.declared.record.Record.{Record}
use Rattle.journal.specs.declared.side.Side.{Side}
use Rattle.spec_checkpoint.specs.Data.{Checkpoint, IsWritten}
use Rattle.spec_checkpoint.specs.Meaning as checkpoint
use Rattle.spec_checkpoint.specs.Records.{state_records}
use Rattle.spec_machine.specs.After.{after_all, IsLegalAfter}
use Rattle.spec_machine.specs.Machine.{fresh}
use Rattle.spec_model.specs.Histories.{History}
use Rattle.spec_model.specs.Nodes.{Node}
use Rattle.spec_model.specs.States.{State}
use Rattle.spec_model.specs.Words.{Digest, Output}
use Rattle.spec_records.specs.Records.{record_of, configuration_of, CanReport}
use Rattle.journal.specs.declared.version.Version.{Version}
use Rattle.journal.specs.declared.version.Version.TheVariants.{Second}

-- ---- what there is

-- how far the append of a group is
pub data Phase : Type 0 where
  -- nothing of the group is written yet, or there is no group
  not_begun : Phase
  -- the group was written after the closed gate of the file
  group_written : Phase
  -- the group was synced, while its gate is closed
  group_synced : Phase
  -- the gate before the group was opened. Once that is synced the group is durable, and the append of the next one can begin
  gate_opened : Phase

-- an output that waits until as many events of this run are settled as the ticket says
pub record Waiting : Type 0 where
  pub ticket : ℕ
  pub output : Output

-- what goes out of a node: an output, or the order to somebody who reads it
pub data Outgoing : Type 0 where
  put_out : Output → Outgoing
  read : List Digest → Outgoing

-- one thing that was given out, and the history at which it was: the history up to the event that put it out, or the one whose order was
-- read
pub record Given : Type 0 where
  pub outgoing : Outgoing
  pub history : History

-- The spare disk of a node on two disks, which isn't read: its bytes when this run began, all of them durable, and its calls since then;
-- also the side and the generation of the area that is read.
pub record Spare : Type 0 where
  pub bytes_at_start : List ℕ
  pub calls : List Call
  pub side : Side
  pub generation : ℕ

-- a rewriting in flight: the bytes of the checkpoint without the first gate, and how many of its device calls were made
pub record Rewriting : Type 0 where
  pub bytes : List ℕ
  pub made : ℕ

pub record World : Type 0 where
  -- the history with which this run began
  pub began : History
  -- The events that this run accepted, oldest first; those of them that are settled; and the groups in flight, oldest first, which were
  -- taken and aren't settled yet. The first `durable` of these groups are durable, and the next one is being appended. During a rewriting
  -- the first group has all events that the rewriting will settle; these need not fit a group.
  pub accepted : History
  pub settled : History
  pub groups : List History
  pub durable : ℕ
  -- the disk that is read: its bytes when this run began, all of them durable; its calls since then; and how far the append of a group is
  pub bytes_at_start : List ℕ
  pub calls : List Call
  pub phase : Phase
  -- the spare disk, if the node is on two disks, and the rewriting that is in flight on it
  pub spare : Option Spare
  pub rewriting : Option Rewriting
  -- the outputs of this run's events, each with its ticket
  pub waiting : List Waiting
  -- all that was given out in all runs, oldest first
  pub given : List Given

-- the events of these groups, one after the other
abbrev pub events_of : List History → History
events_of groups = flat_map (λ group. group) groups

-- all events that were taken for the disk: those that are settled, and those in groups in flight
abbrev pub taken_in : World → History
taken_in world = world.settled ++ events_of world.groups

-- the events that are durable: those that are settled, and those of the durable groups in flight
abbrev pub durable_in : World → History
durable_in world = world.settled ++ events_of (take world.durable world.groups)

-- the groups in flight that aren't durable
abbrev pub undurable_in : World → List History
undurable_in world = drop world.durable world.groups

-- the events of the first of these groups; none if there is no group
abbrev pub first_of : List History → History
first_of [] = []
first_of (group ∷ groups) = group

-- ---- what bytes are read as

-- the bytes of these records
abbrev pub bytes_of : List Record → List (List ℕ)
bytes_of records = map (λ kept. kept.bytes) records

-- the areas of a journal are two, not one
abbrev pub IsPair : Areas → Type 0
IsPair (alone bytes) = ⊥
IsPair (pair one other) = ⊤

-- a journal is read as the records `front`, of which `in_first` are its whole first group, and then as the records of these events
pub record IsJournal (read : Result (List Record) ℕ) (front : List (List ℕ)) (in_first : ℕ) (events : History) : Type 0 where
  pub records : List Record
  pub stands_for : read ≡ Ok records
  pub are : bytes_of records ≡ front ++ map record_of events
  pub first_gate : ℕ
  pub first : All (λ kept. kept.gate ≡ first_gate) (take in_first records)
  pub others : All (λ kept. first_gate < kept.gate) (drop in_first records)

-- the record of the node's configuration in this version of the format
abbrev pub own_configuration : Version → Node → List ℕ
own_configuration version node = configuration_of version node.charter node.own

-- What a node's journal begins with: a state, the records before those of events, and how many of these are in the first group. The state
-- is the fresh one after the node's configuration alone; or, on two disks, the state of a checkpoint after the configuration and a head.
-- The configuration's version can express the node's committee: version 1 can only if each stake is 1.
pub data BeginsAs (node : Node) (areas : Areas) (front : List (List ℕ)) (in_first : ℕ) (base : State) : Type 0 where
  as_fresh : (version : Version) → CanReport version node.charter → front ≡ own_configuration version node ∷ [] → in_first ≡ 1 → base ≡ fresh node → BeginsAs node areas front in_first base
  as_checkpoint : (version : Version) (generation : ℕ) (kept : Checkpoint) → IsPair areas → CanReport version node.charter → IsWritten node kept
      → front ≡ own_configuration version node ∷ head_record generation ∷ state_records kept → in_first ≡ 2 → base ≡ checkpoint.state_in node kept
      → BeginsAs node areas front in_first base

-- areas are a proper journal of the node with this state: their events are legal after the state with which the journal begins, and lead to
-- this state
pub record Holds (node : Node) (areas : Areas) (state_held : State) : Type 0 where
  pub front : List (List ℕ)
  pub in_first : ℕ
  pub base : State
  pub begins : BeginsAs node areas front in_first base
  pub events : History
  pub journal : IsJournal (stands_in areas) front in_first events
  pub legal : IsLegalAfter node base events
  pub leads : after_all node base events ≡ state_held

-- areas stand for a state: they are a proper journal with it, or they have no record yet and it is the fresh state
pub data StandsFor (node : Node) (areas : Areas) (state_held : State) : Type 0 where
  as_journal : Holds node areas state_held → StandsFor node areas state_held
  as_empty : stands_in areas ≡ Ok [] → state_held ≡ fresh node → StandsFor node areas state_held

-- Bytes after an open gate are a checkpoint of this generation and state: a journal in version 2 that begins with the records of the state,
-- has no events, and ends with a closed gate.
pub record IsCheckpointOf (node : Node) (generation : ℕ) (state_kept : State) (bytes : List ℕ) : Type 0 where
  pub kept : Checkpoint
  pub written : IsWritten node kept
  pub is : checkpoint.state_in node kept ≡ state_kept
  pub journal : IsJournal (stands (OPEN ∷ bytes)) (own_configuration Second node ∷ head_record generation ∷ state_records kept) 2 []
  pub reported : reports (OPEN ∷ bytes) ≡ Some (Some generation)
  pub ends_closed : EndsClosed (OPEN ∷ bytes)
  pub are_bytes : AreBytes bytes

-- ---- the disks

-- the records of the first group in flight that isn't durable
abbrev pub group_in : World → List (List ℕ)
group_in world = map record_of (first_of (undurable_in world))

-- the bytes that a read of the disk gives
abbrev pub content_in : World → List ℕ
content_in world = (state world.bytes_at_start world.calls).content

-- the next device call of an append, given how far it is, the disk's content and the group. The four calls are: the group is written at the
-- end of the file; a sync; the gate before the group is opened, by a write of its own; a sync
abbrev pub call_in : Phase → List ℕ → List (List ℕ) → Option Call
call_in not_begun content group = Some (Wrote (length content) (group_bytes group))
call_in group_written content group = Some Synced
call_in group_synced content group = Some (Wrote (length content - length (group_bytes group) - 1) (OPEN ∷ []))
call_in gate_opened content group = Some Synced

-- the next device call of the appends of these groups, the first one first; None if there is no group
abbrev pub call_for : List History → Phase → List ℕ → Option Call
call_for [] phase content = None
call_for (group ∷ groups) phase content = call_in phase content (map record_of group)

-- the next device call of an append; None while a rewriting is in flight
abbrev pub next_call : World → Option Call
next_call world = option_map_or (λ rewriting. None) world.rewriting (call_for (undurable_in world) world.phase (content_in world))

-- the next device call of a rewriting, if one is in flight. A rewriting is never in flight together with an append
abbrev pub next_spare_call : World → Option Call
next_spare_call world = option_and_then (λ rewriting. slice_get (rewrite_calls rewriting.bytes) rewriting.made) world.rewriting

-- What a stop at this moment may leave of a disk, given its calls so far and its next call: an outcome after the calls so far or, if the
-- stop came inside the next call, an outcome after that. A failed call counts as such a stop, since it may have had any part of its effect.
pub data MayLeave (bytes : List ℕ) (calls : List Call) (next : Option Call) (found : List ℕ) : Type 0 where
  between : IsOutcome bytes calls found → MayLeave bytes calls next found
  inside : (call : Call) → next ≡ Some call → IsOutcome bytes (calls ++ call ∷ []) found → MayLeave bytes calls next found

-- what a stop at this moment may leave of the node's one disk, or of both its disks
pub data MayStop (world : World) (areas : Areas) : Type 0 where
  of_one : (found : List ℕ) → world.spare ≡ None → MayLeave world.bytes_at_start world.calls (next_call world) found → areas ≡ alone found → MayStop world areas
  of_pair : (spare : Spare) (live other : List ℕ) → world.spare ≡ Some spare → MayLeave world.bytes_at_start world.calls (next_call world) live
      → MayLeave spare.bytes_at_start spare.calls (next_spare_call world) other → areas ≡ pair_of spare.side live other → MayStop world areas

-- ---- how a run begins

-- the spare disk as an opening leaves it, with the side and the generation of the area that is read
pub record OpenedSpare : Type 0 where
  pub bytes : List ℕ
  pub side : Side
  pub generation : ℕ

-- the disks that an opening leaves: one, or two
pub record Opened : Type 0 where
  pub bytes : List ℕ
  pub spare : Option OpenedSpare

abbrev pub alone_on : List ℕ → Opened
alone_on bytes = record { bytes = bytes; spare = None }

abbrev pub areas_of : Opened → Areas
areas_of opened = option_map_or (λ spare. pair_of spare.side opened.bytes spare.bytes) opened.spare (alone opened.bytes)

abbrev pub spare_on : OpenedSpare → Spare
spare_on spare = record { bytes_at_start = spare.bytes; calls = []; side = spare.side; generation = spare.generation }

-- a run that has just begun with this history, on disks as an opening left them, after all this was given out
abbrev pub run_on : Opened → History → List Given → World
run_on opened began given = record {
  began = began;
  accepted = [];
  settled = [];
  groups = [];
  durable = 0;
  bytes_at_start = opened.bytes;
  calls = [];
  phase = not_begun;
  spare = option_map spare_on opened.spare;
  rewriting = None;
  waiting = [];
  given = given;
}

-- the spare disk is at rest (it will not be read) beside an area with these bytes, which is read
pub record IsOpenedSpare (bytes : List ℕ) (spare : OpenedSpare) : Type 0 where
  pub reported : reports bytes ≡ Some (Some spare.generation)
  pub at_rest : IsAtRest spare.generation spare.bytes
  pub are_bytes : AreBytes spare.bytes

-- Disks as an opening leaves them, all durable: they are a proper journal of the node with this state, and the one that is read ends with a
-- closed gate.
pub record IsOpened (node : Node) (opened : Opened) (state_held : State) : Type 0 where
  pub holds : Holds node (areas_of opened) state_held
  pub ends_closed : EndsClosed opened.bytes
  pub are_bytes : AreBytes opened.bytes
  pub spare : IfSome opened.spare (IsOpenedSpare opened.bytes)
