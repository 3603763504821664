-- That runs of a node exist, so that the laws speak of something, and how a run can go on.
use Rattle.std.specs.Prelude.{◌≡◌, ◌<◌, ◌≤◌, ◌+◌, ◌*◌, ◌^◌, ℕ, zero, suc, List, [], ◌∷◌, ◌++◌, length, take, map, All, Some, None, is_some}
use Rattle.std.specs.Option.{option_map_or}
use Rattle.diskmodel.specs.Outcomes.{AreBytes, state}
use Rattle.spec_checkpoint.specs.Data.{Checkpoint, IsWritten}
use Rattle.spec_checkpoint.specs.Meaning as checkpoint
use Rattle.spec_checkpoint.specs.Records.{state_records}
use Rattle.journal.specs.Areas.{Areas, alone, pair_of, rewrite_calls}
use Rattle.journal.specs.declared.side.Side.{Side}
use Rattle.journal.specs.declared.side.Side.TheVariants.{First}
use Rattle.journal.specs.Format.{FitsGroup, file_with}
use Rattle.journal.specs.Snapshot.{bytes_for, CanPack}
use Rattle.journal.specs.Journal.{append_calls}
use Rattle.journal.specs.declared.layout.TheConstants.{CLOSED, OPEN}
use Rattle.spec_model.specs.Admitting.{IsLegal}
use Rattle.spec_model.specs.Giving.{kept}
use Rattle.spec_model.specs.Histories.{History}
use Rattle.spec_model.specs.Nodes.{Node, IsNode}
use Rattle.spec_model.specs.States.{State}
use Rattle.spec_records.specs.Records.{record_of, configuration_of}
use Rattle.journal.specs.declared.version.Version.TheVariants.{Second}
use Rattle.wire.specs.Fields.{HasBytes}
use Rattle.spec_world.specs.World.{own_configuration, not_begun, Given, Spare, World, Holds, IsCheckpointOf, IsOpened, Opened, alone_on, undurable_in, group_in, content_in, StandsFor, MayStop, run_on}
use Rattle.spec_world.specs.Steps.{Move, take_to, device_call, settle, take_all, spare_call, restart, replaced, group_to, IsRecovered, IsStep, Leads, IsRun}

-- each key of the committee has 32 bytes
abbrev pub AreKeys : Node → Type 0
AreKeys node = All (λ key. HasBytes 32 key.0) node.charter.keys

-- what an opening makes of one empty disk: an open gate, the group of the configuration alone, in version 2, and a closed gate
abbrev pub first_bytes : Node → List ℕ
first_bytes node = file_with (CLOSED ∷ []) (configuration_of Second node.charter node.own ∷ [])

-- what an opening makes of two empty disks: the group of the configuration on the first one, and one closed gate on the second
abbrev pub first_pair : Node → Opened
first_pair node = record { bytes = first_bytes node; spare = Some (record { bytes = CLOSED ∷ []; side = First; generation = 0 }) }

-- every node has a run that has just begun on one empty disk, whatever its committee's stakes; RunsBeginOnTwo: and one on two empty disks
abbrev pub RunsBegin : Type 0
RunsBegin = (node : Node) → IsNode node → AreKeys node → IsRun node [] (run_on (alone_on (first_bytes node)) [] [])

abbrev pub RunsBeginOnTwo : Type 0
RunsBeginOnTwo = (node : Node) → IsNode node → AreKeys node → IsRun node [] (run_on (first_pair node) [] [])

-- the bytes that a read of each disk gives now
abbrev pub areas_in : World → Areas
areas_in world =
    option_map_or (λ spare. pair_of spare.side (content_in world) (state spare.bytes_at_start spare.calls).content) world.spare (alone (content_in world))

-- at each moment of a run a stop may lose nothing: what it leaves may be what a read of each disk gives
abbrev pub StopsArePossible : Type 0
StopsArePossible = (node : Node) (moves : List Move) (world : World) → IsNode node → IsRun node moves world → MayStop world (areas_in world)

-- whatever a stop leaves, a new run can begin on it, with as many disks as before
abbrev pub RunsGoOn : Type 0
RunsGoOn = (node : Node) (moves : List Move) (world : World) (found : Areas) → IsNode node → IsRun node moves world → MayStop world found
    → (next : World) × IsStep node world (restart found) next × (is_some next.spare ≡ is_some world.spare)

-- a new run can begin with each history that recovery may find, if what the stop left is read as the state of that history
abbrev pub RunsBeginWithWhatStands : Type 0
RunsBeginWithWhatStands = (node : Node) (moves : List Move) (world : World) (found : Areas) (history : History) → IsNode node → IsRun node moves world → MayStop world found
    → IsRecovered node world history → StandsFor node found (kept node history)
    → (next : World) × IsStep node world (restart found) next × (next.began ≡ history) × (next.given ≡ world.given) × (is_some next.spare ≡ is_some world.spare)

-- a new run can begin at each state that is read from what the stop left
abbrev pub RunsBeginAtStates : Type 0
RunsBeginAtStates = (node : Node) (moves : List Move) (world : World) (found : Areas) (state_found : State) → IsNode node → IsRun node moves world → MayStop world found
    → StandsFor node found state_found
    → (next : World) × IsStep node world (restart found) next × (kept node next.began ≡ state_found) × (next.given ≡ world.given) × (is_some next.spare ≡ is_some world.spare)

-- a run of the node has just begun, with this history
pub record HasJustBegun (node : Node) (world : World) (history : History) : Type 0 where
  pub moves : List Move
  pub run : IsRun node moves world
  pub on : Opened
  pub is : world ≡ run_on on history world.given

-- with each legal history some run can begin, on any disks that an opening may leave at that history's state
abbrev pub HistoriesBegin : Type 0
HistoriesBegin = (node : Node) (history : History) (on : Opened) → IsLegal node history → AreKeys node → IsOpened node on (kept node history)
    → (given : List Given) × (moves : List Move) × IsRun node moves (run_on on history given)

-- two disks as an opening leaves them: the area on `side` has the bytes `live`, is read, and has this generation; the other area has
-- `other`
abbrev pub two_on : List ℕ → List ℕ → Side → ℕ → Opened
two_on live other side generation = record { bytes = live; spare = Some (record { bytes = other; side = side; generation = generation }) }

-- with each legal history some run can begin on two disks, whichever of them is read, and with each generation
abbrev pub HistoriesBeginOnTwo : Type 0
HistoriesBeginOnTwo = (node : Node) (history : History) (side : Side) (generation : ℕ) → IsLegal node history → AreKeys node → generation < 2 ^ 64
    → (live : List ℕ) × (other : List ℕ) × IsOpened node (two_on live other side generation) (kept node history)

-- The first `count` accepted events are settled, and no group is in flight. The journal's file has one more group, and is read as what is
-- settled. Nothing else changed.
pub record HasSettledGroup (node : Node) (world : World) (count : ℕ) (next : World) : Type 0 where
  pub began : next.began ≡ world.began
  pub accepted : next.accepted ≡ world.accepted
  pub settled : next.settled ≡ take count world.accepted
  pub groups : next.groups ≡ []
  pub phase : next.phase ≡ not_begun
  pub waiting : next.waiting ≡ world.waiting
  pub given : next.given ≡ world.given
  pub spare : next.spare ≡ world.spare
  pub rewriting : next.rewriting ≡ world.rewriting
  pub holds : Holds node (areas_in next) (kept node (next.began ++ next.settled))
  pub content : content_in next ≡ file_with (content_in world) (map record_of (group_to world count))

-- if no group is in flight, accepted events that fit a group can be settled by a take, the four device calls of an append, and a settle
abbrev pub GroupsSettle : Type 0
GroupsSettle = (node : Node) (moves : List Move) (world : World) (count : ℕ) → IsNode node → IsRun node moves world → world.groups ≡ [] → FitsGroup (map record_of (group_to world count))
    → (next : World) × Leads node world (take_to count ∷ device_call ∷ device_call ∷ device_call ∷ device_call ∷ settle ∷ []) next × HasSettledGroup node world count next

-- a number of moves in a row, each of which makes the next device call of an append
abbrev pub device_calls : ℕ → List Move
device_calls zero = []
device_calls (suc count) = device_call ∷ device_calls count

-- a world with no group in flight but one: the accepted events that weren't taken yet, up to the first `count`
abbrev pub with_group : World → ℕ → World
with_group world count = record world { groups = group_to world count ∷ [] }

-- the moves by which two groups are taken and written, one after the other, and only then both are settled
abbrev pub two_in_flight : ℕ → ℕ → List Move
two_in_flight count more = take_to count ∷ (device_calls 4 ++ take_to more ∷ (device_calls 4 ++ settle ∷ settle ∷ []))

-- The first `count` accepted events are settled, no group is in flight, and the disk is read as what is settled. Nothing else changed.
pub record HasSettledGroups (node : Node) (world : World) (count : ℕ) (next : World) : Type 0 where
  pub began : next.began ≡ world.began
  pub accepted : next.accepted ≡ world.accepted
  pub settled : next.settled ≡ take count world.accepted
  pub groups : next.groups ≡ []
  pub phase : next.phase ≡ not_begun
  pub waiting : next.waiting ≡ world.waiting
  pub given : next.given ≡ world.given
  pub spare : next.spare ≡ world.spare
  pub rewriting : next.rewriting ≡ world.rewriting
  pub holds : Holds node (areas_in next) (kept node (next.began ++ next.settled))

-- if no group is in flight, accepted events that fit two groups can be settled so that both groups are in flight at once
abbrev pub TwoGroupsSettle : Type 0
TwoGroupsSettle = (node : Node) (moves : List Move) (world : World) (count more : ℕ) → IsNode node → IsRun node moves world → world.groups ≡ []
    → FitsGroup (map record_of (group_to world count)) → FitsGroup (map record_of (group_to (with_group world count) more))
    → (next : World) × Leads node world (two_in_flight count more) next × HasSettledGroups node world more next

-- A row of device calls is made by appends: at most four for each group that isn't durable. The first four are the calls by which a journal
-- appends the first such group. From the world after these four the law says the same of the next group.
abbrev pub AppendsMakeCalls : Type 0
AppendsMakeCalls = (node : Node) (world next : World) (count : ℕ) → world.phase ≡ not_begun → Leads node world (device_calls count) next
    → (count ≤ 4 * length (undurable_in world)) × (count ≤ 4 → next.calls ≡ world.calls ++ take count (append_calls (length (content_in world)) (group_in world)))
    × (next.spare ≡ world.spare)

-- ---- checkpoints

-- a number of moves in a row, each of which makes the next device call of a rewriting
abbrev pub spare_calls : ℕ → List Move
spare_calls zero = []
spare_calls (suc count) = spare_call ∷ spare_calls count

-- After a checkpoint all accepted events are settled, nothing is in flight, and the two disks have changed places. Nothing else has
-- changed.
pub record HasSettledCheckpoint (node : Node) (world : World) (before : Spare) (bytes : List ℕ) (next : World) : Type 0 where
  pub began : next.began ≡ world.began
  pub accepted : next.accepted ≡ world.accepted
  pub settled : next.settled ≡ world.accepted
  pub groups : next.groups ≡ []
  pub phase : next.phase ≡ not_begun
  pub rewriting : next.rewriting ≡ None
  pub waiting : next.waiting ≡ world.waiting
  pub given : next.given ≡ world.given
  -- the disk that was read before is the spare disk now
  pub spare : next.spare ≡ Some (replaced world before)
  pub content : content_in next ≡ OPEN ∷ bytes
  pub holds : Holds node (areas_in next) (kept node (next.began ++ next.settled))

-- if there are two disks and no group is in flight, a checkpoint of all accepted events can be written and settled by these moves
abbrev pub CheckpointsSettle : Type 0
CheckpointsSettle = (node : Node) (moves : List Move) (world : World) (spare : Spare) (bytes : List ℕ) → IsNode node → IsRun node moves world → world.groups ≡ []
    → world.spare ≡ Some spare → IsCheckpointOf node (spare.generation + 1) (kept node (world.began ++ world.accepted)) bytes
    → (next : World) × Leads node world (take_all bytes ∷ (spare_calls 8 ++ settle ∷ [])) next × HasSettledCheckpoint node world spare bytes next

-- the disks have changed places: the rewritten one is read now, and the one that was read is the spare disk
pub record HaveChangedPlaces (world : World) (before : Spare) (bytes : List ℕ) (next : World) : Type 0 where
  pub bytes_at_start : next.bytes_at_start ≡ before.bytes_at_start
  pub calls : next.calls ≡ before.calls ++ rewrite_calls bytes
  pub spare : next.spare ≡ Some (replaced world before)

-- The device calls of a rewriting are the eight by which a journal rewrites its spare disk, in their order; there is no ninth. Before the
-- eighth the disk that is read stays the same; with the eighth the disks change places.
abbrev pub RewritingsMakeCalls : Type 0
RewritingsMakeCalls = (node : Node) (world next : World) (spare : Spare) (bytes : List ℕ) (count : ℕ) → world.spare ≡ Some spare
    → world.rewriting ≡ Some (record { bytes = bytes; made = 0 }) → Leads node world (spare_calls count) next
    → (count ≤ 8) × (count < 8 → (next.spare ≡ Some (record spare { calls = spare.calls ++ take count (rewrite_calls bytes) })) × (next.calls ≡ world.calls))
    × (count ≡ 8 → HaveChangedPlaces world spare bytes next)

-- What a journal writes at a rewriting is a checkpoint of the state, after its first gate, if the snapshot that it gets has the
-- configuration and the state's records, each of which fits a group.
abbrev pub SnapshotsAreCheckpoints : Type 0
SnapshotsAreCheckpoints = (node : Node) (generation : ℕ) (kept_data : Checkpoint) → IsNode node → AreKeys node → 1 ≤ generation → generation < 2 ^ 64 → IsWritten node kept_data
    → CanPack (own_configuration Second node ∷ state_records kept_data) → AreBytes (bytes_for generation (own_configuration Second node ∷ state_records kept_data))
    → IsCheckpointOf node generation (checkpoint.state_in node kept_data) (bytes_for generation (own_configuration Second node ∷ state_records kept_data))
