-- The moves of a node's world (the model of all its runs): what may happen next, and what a run is.
use Rattle.std.specs.Prelude.{◌≡◌, ◌⊎◌, ℕ, ◌+◌, ◌-◌, ◌≤◌, ◌==◌, List, [], ◌∷◌, ◌++◌, map, length, take, drop, slice_get, None, Some, Contains, if◌then◌else◌}
use Rattle.diskmodel.specs.declared.call.Call.{Call}
use Rattle.journal.specs.Areas.{Areas, alone, pair, other_side, rewrite_calls}
use Rattle.journal.specs.Format.{FitsGroup}
use Rattle.journal.specs.declared.side.Side.TheVariants.{First}
use Rattle.wire.specs.Lists.{Begins}
use Rattle.spec_model.specs.Admitting.{admit, IsTaken, IsLegal}
use Rattle.spec_model.specs.Giving.{kept}
use Rattle.spec_model.specs.Histories.{History}
use Rattle.spec_model.specs.Holdings.{order}
use Rattle.spec_model.specs.Nodes.{Node}
use Rattle.spec_model.specs.Words.{Event, Output}
use Rattle.header.specs.declared.admission.Admission.{Admission}
use Rattle.header.specs.declared.admission.Admission.TheVariants.{New, Known, Refused}
use Rattle.spec_records.specs.Records.{record_of}
use Rattle.spec_world.specs.World.{Phase, not_begun, group_written, group_synced, gate_opened, Waiting, Outgoing, put_out, read, Spare, Rewriting, World}
use Rattle.spec_world.specs.World.{taken_in, durable_in, undurable_in, first_of, StandsFor, IsCheckpointOf, IsOpened, Opened, alone_on, next_call, MayStop, run_on}

-- ---- the moves

-- What may happen next. accept: an event comes in. take_to: accepted events are taken, up to this count of all, as the last group in
-- flight. device_call: an append makes its next device call. settle: the first group in flight is settled. release: an output goes out.
-- read_order: the settled order is read. take_all: all accepted events are taken, for a checkpoint with these bytes. spare_call: its
-- rewriting makes its next device call; with the last one the disks change places. restart: the machine stops, leaves these areas, and they
-- are opened again.
pub data Move : Type 0 where
  accept : Event → Move
  take_to : ℕ → Move
  device_call : Move
  settle : Move
  release : Waiting → Move
  read_order : Move
  take_all : List ℕ → Move
  spare_call : Move
  restart : Areas → Move

-- these outputs as they wait, each with this ticket: how many events have to be settled before it may go out
abbrev pub ticketed : ℕ → List Output → List Waiting
ticketed ticket outputs = map (λ output. record { ticket = ticket; output = output }) outputs

-- the world after a new event: the event is accepted, and its outputs wait until it is settled
abbrev pub with_new : World → Event → List Output → World
with_new world event outputs = record world {
  accepted = world.accepted ++ event ∷ [];
  waiting = world.waiting ++ ticketed (length world.accepted + 1) outputs;
}

-- the world after an event that was accepted before: its outputs wait until all events accepted so far are settled
abbrev pub with_known : World → List Output → World
with_known world outputs = record world { waiting = world.waiting ++ ticketed (length world.accepted) outputs }

-- the world `next` follows from an event that got this answer. A refused event changes nothing
abbrev pub IsAnswered : World → Event → Admission → World → Type 0
IsAnswered world event (New outputs) next = next ≡ with_new world event outputs
IsAnswered world event (Known outputs) next = next ≡ with_known world outputs
IsAnswered world event (Refused refusal) next = ⊥

-- how far an append is after its next device call
abbrev pub next_phase : Phase → Phase
next_phase not_begun = group_written
next_phase group_written = group_synced
next_phase group_synced = gate_opened
next_phase gate_opened = not_begun

-- how many groups in flight are durable after the next device call: the sync after the write of a gate makes one more durable
abbrev pub next_durable : Phase → ℕ → ℕ
next_durable gate_opened durable = durable + 1
next_durable _ durable = durable

-- the world once this was given out, noted with this history (see `Given`); nothing else has changed
abbrev pub with_given : World → Outgoing → History → World
with_given world outgoing history = record world { given = world.given ++ record { outgoing = outgoing; history = history } ∷ [] }

-- an event that the node can take comes in, and is answered by the history of all accepted events
pub record IsAccepted (node : Node) (world : World) (event : Event) (next : World) : Type 0 where
  pub is_taken : IsTaken node event
  pub is : IsAnswered world event (admit node (world.began ++ world.accepted) event) next

-- the group that the next take makes: the accepted events that aren't taken yet, up to the first `count` of all
abbrev pub group_to : World → ℕ → History
group_to world count = drop (length (taken_in world)) (take count world.accepted)

-- The first `count` accepted events are taken: those of them that weren't taken yet become the last group in flight. Any group that fits
-- may be taken, not the longest one alone.
pub record IsTakenTo (world : World) (count : ℕ) (next : World) : Type 0 where
  pub fits : FitsGroup (map record_of (group_to world count))
  pub is : next ≡ record world { groups = world.groups ++ group_to world count ∷ [] }

-- an append makes its next device call, which succeeds
pub record IsCalled (world : World) (next : World) : Type 0 where
  pub call : Call
  pub due : next_call world ≡ Some call
  pub is : next ≡ record world { calls = world.calls ++ call ∷ []; phase = next_phase world.phase; durable = next_durable world.phase world.durable }

-- the first group in flight, which is durable, is settled. The append of a later group may have begun
pub record IsSettled (world : World) (next : World) : Type 0 where
  pub done : 1 ≤ world.durable
  pub is : next ≡ record world { settled = world.settled ++ first_of world.groups; groups = drop 1 world.groups; durable = world.durable - 1 }

-- An output goes out whose ticket is settled. It stays in the list and may go out again, since a node that gives it out once is a case of
-- this.
pub record IsReleased (world : World) (waiting : Waiting) (next : World) : Type 0 where
  pub waits : Contains world.waiting waiting
  pub ready : waiting.ticket ≤ length world.settled
  pub is : next ≡ with_given world (put_out waiting.output) (world.began ++ take waiting.ticket world.accepted)

-- If no group is in flight, all accepted events are taken, and the rewriting of the spare disk to a checkpoint of all of them begins.
pub record IsTakenAll (node : Node) (world : World) (bytes : List ℕ) (next : World) : Type 0 where
  pub spare : Spare
  pub pair : world.spare ≡ Some spare
  pub idle : world.groups ≡ []
  pub checkpoint : IsCheckpointOf node (spare.generation + 1) (kept node (world.began ++ world.accepted)) bytes
  pub is : next ≡ record world { groups = drop (length world.settled) world.accepted ∷ []; rewriting = Some (record { bytes = bytes; made = 0 }) }

-- the world after one more device call of a rewriting, which isn't the last one
abbrev pub with_spare_call : World → Spare → Rewriting → Call → World
with_spare_call world spare rewriting call = record world {
  spare = Some (record spare { calls = spare.calls ++ call ∷ [] });
  rewriting = Some (record rewriting { made = rewriting.made + 1 });
}

-- The new spare disk once a rewriting ends: it is the disk that was read until then. The other area is read from then on, with the next
-- generation.
abbrev pub replaced : World → Spare → Spare
replaced world spare = record { bytes_at_start = world.bytes_at_start; calls = world.calls; side = other_side spare.side; generation = spare.generation + 1 }

-- With the last device call of a rewriting the disks change places: from then on the rewritten disk is read, and the events of the first
-- group in flight, which the checkpoint holds, are durable.
abbrev pub with_rewritten : World → Spare → Call → World
with_rewritten world spare call = record world {
  bytes_at_start = spare.bytes_at_start;
  calls = spare.calls ++ call ∷ [];
  spare = Some (replaced world spare);
  rewriting = None;
  durable = world.durable + 1;
}

-- the world after a device call of a rewriting; the last call ends the rewriting
abbrev pub after_spare_call : World → Spare → Rewriting → Call → World
after_spare_call world spare rewriting call =
    if rewriting.made + 1 == length (rewrite_calls rewriting.bytes) then with_rewritten world spare call else with_spare_call world spare rewriting call

-- a rewriting makes its next device call, which succeeds
pub record IsSpareCalled (world : World) (next : World) : Type 0 where
  pub spare : Spare
  pub pair : world.spare ≡ Some spare
  pub rewriting : Rewriting
  pub in_flight : world.rewriting ≡ Some rewriting
  pub call : Call
  pub due : slice_get (rewrite_calls rewriting.bytes) rewriting.made ≡ Some call
  pub is : next ≡ after_spare_call world spare rewriting call

-- A history that recovery may find after a stop at this moment: a legal prefix of what the run began with and accepted. It has all that is
-- settled, all durable groups in flight, the next group as a whole or not at all, and nothing after that.
pub record IsRecovered (node : Node) (world : World) (history : History) : Type 0 where
  pub legal : IsLegal node history
  pub accepted : Begins history (world.began ++ world.accepted)
  pub settled : Begins (world.began ++ world.settled) history
  pub whole : (history ≡ world.began ++ durable_in world) ⊎ (history ≡ world.began ++ (durable_in world ++ first_of (undurable_in world)))
  -- follows from `whole`, and is stated for convenience: if no group is in flight, recovery finds just what is settled
  pub without_group : world.groups ≡ [] → history ≡ world.began ++ world.settled

-- After a stop a new run begins with a history that recovery may find, if what the stop left is read as that history's state. The run may
-- begin on any disks, one or two, that are a journal with this state, since an opening cuts, writes a first group or rewrites, and may add
-- a second disk. Openings that fail or are stopped themselves are part of the same move, as is an opening after a failed device call.
pub record IsRestarted (node : Node) (world : World) (found : Areas) (next : World) : Type 0 where
  pub left : MayStop world found
  pub recovered : IsRecovered node world next.began
  pub stands_for : StandsFor node found (kept node next.began)
  pub disks : Opened
  pub opened : IsOpened node disks (kept node next.began)
  pub is : next ≡ run_on disks next.began world.given

abbrev pub IsStep : Node → World → Move → World → Type 0
IsStep node world (accept event) next = IsAccepted node world event next
IsStep node world (take_to count) next = IsTakenTo world count next
IsStep node world device_call next = IsCalled world next
IsStep node world settle next = IsSettled world next
IsStep node world (release waiting) next = IsReleased world waiting next
IsStep node world read_order next =
    next ≡ with_given world (read (order node (world.began ++ world.settled))) (world.began ++ world.settled)
IsStep node world (take_all bytes) next = IsTakenAll node world bytes next
IsStep node world spare_call next = IsSpareCalled world next
IsStep node world (restart found) next = IsRestarted node world found next

-- ---- runs

-- these moves, one after the other, lead from the world `world` to the world `last`
abbrev pub Leads : Node → World → List Move → World → Type 0
Leads node world [] last = world ≡ last
Leads node world (move ∷ moves) last = (next : World) × IsStep node world move next × Leads node next moves last

-- the state of the disks before the very first opening: one empty disk; nothing_on_two: two empty disks
abbrev pub nothing_on_one : Opened
nothing_on_one = alone_on []

abbrev pub nothing_on_two : Opened
nothing_on_two = record { bytes = []; spare = Some (record { bytes = []; side = First; generation = 0 }) }

-- a first world of a node: it begins as after a stop that left empty disks, and nothing was given out
abbrev pub IsFirst : Node → World → Type 0
IsFirst node first = IsRestarted node (run_on nothing_on_one [] []) (alone []) first ⊎ IsRestarted node (run_on nothing_on_two [] []) (pair [] []) first

-- these moves lead from a first world of the node to this world
pub record IsRun (node : Node) (moves : List Move) (world : World) : Type 0 where
  pub first : World
  pub begins : IsFirst node first
  pub leads : Leads node first moves world
