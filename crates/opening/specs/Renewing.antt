-- Renewal: what an opening does with a journal on two disks once its records were taken. An empty journal gets its configuration, and a
-- journal in version 1 is rewritten as a checkpoint.
use Rattle.std.specs.Prelude.{◌≡◌, ◌≢◌, ◌⊎◌, ◌<◌, ◌+◌, ◌-◌, ◌^◌, ℕ, List, [], ◌∷◌, length, Option, Some, IsSome, Result, Ok, IfErr, OnOk}
use Rattle.diskmodel.specs.Disk.{Device as Disks, ReportsFault}
use Rattle.journal.specs.Areas.{Areas, pair, other_side, stands_in, reports}
use Rattle.journal.specs.Configuration.{shaped_version}
use Rattle.journal.specs.Journal.{disk_of, spare_of, IsAlive}
use Rattle.journal.specs.Opened.{IsChoice}
use Rattle.journal.specs.Pairs.{areas_of, side_in, generation_in, HaveChangedPlaces, HaveKeptPlaces}
use Rattle.journal.specs.Snapshot.{bytes_for}
use Rattle.journal.specs.Stores.{disks_of, faults_of_both}
use Rattle.journal.specs.declared.error.JournalError.{JournalError}
use Rattle.journal.specs.declared.error.JournalError.TheVariants.{Memory, Device, Full}
use Rattle.journal.specs.declared.journal.Journal.{Journal}
use Rattle.journal.specs.declared.layout.TheConstants.{MAX_JOURNAL_BYTES}
use Rattle.journal.specs.declared.record.Record.{Record}
use Rattle.journal.specs.declared.side.Side.{Side}
use Rattle.journal.specs.declared.version.Version.{Version}
use Rattle.journal.specs.declared.version.Version.TheVariants.{First, Second}
use Rattle.spec_checkpoint.specs.Data.{Checkpoint, IsWritten}
use Rattle.spec_checkpoint.specs.Meaning.{state_in}
use Rattle.spec_checkpoint.specs.Records.{state_records}
use Rattle.spec_model.specs.Nodes.{Node}
use Rattle.spec_model.specs.States.{State}
use Rattle.spec_world.specs.World.{own_configuration, Holds, StandsFor}
use Rattle.opening.specs.PairReplayed.{version_in}
use Rattle.opening.specs.Stages.{IsStage}
use Rattle.opening.specs.Decoded.{decoded_in}

-- for each state that the areas before stand for, the areas later are a proper journal of the node with that state
abbrev pub KeepsStatesIn : Node → Areas → Areas → Type 0
KeepsStatesIn node before later = (state : State) → StandsFor node before state → Holds node later state

-- a checkpoint has no room: with its gate it is longer than a journal may be, or there is no generation after this one
abbrev pub IsTooLong : Node → ℕ → Checkpoint → Type 0
IsTooLong node generation checkpoint =
    (MAX_JOURNAL_BYTES < 1 + length (bytes_for (generation + 1) (own_configuration Second node ∷ state_records checkpoint))) ⊎ (generation ≡ 2 ^ 64 - 1)

-- a checkpoint of this state has no room, with the generation after this one
pub record HasNoRoom (node : Node) (generation : ℕ) (state : State) : Type 0 where
  pub checkpoint : Checkpoint
  pub written : IsWritten node checkpoint
  pub is : state_in node checkpoint ≡ state
  pub full : IsTooLong node generation checkpoint

-- a checkpoint of this state has room, with the generation after this one
pub record HasRoom (node : Node) (generation : ℕ) (state : State) : Type 0 where
  pub checkpoint : Checkpoint
  pub written : IsWritten node checkpoint
  pub is : state_in node checkpoint ≡ state
  pub fits : ¬ IsTooLong node generation checkpoint

-- two areas are a journal in version 1, and a checkpoint of its state has no room, with the generation after that of the area that is read
pub record IsFullOf (node : Node) (one other : List ℕ) : Type 0 where
  pub records : List Record
  pub stands_for : stands_in (pair one other) ≡ Ok records
  pub version : version_in records ≡ Some First
  pub side : Side
  pub generation : ℕ
  pub chosen : IsChoice side generation (reports one) (reports other)
  pub state : State
  pub is_decoded : decoded_in node (pair one other) ≡ Ok state
  pub no_room : HasNoRoom node generation state

-- an open journal, in either version, has no room for a checkpoint of the state that it decodes to
pub record IsFullAt {D : Type 0} (node : Node) (device : Disks D) (journal : Journal D) : Type 0 where
  pub state : State
  pub is_decoded : decoded_in node (areas_of device journal) ≡ Ok state
  pub no_room : HasNoRoom node (generation_in journal) state

-- an open journal has room for a checkpoint of the state that it decodes to
pub record HasRoomAt {D : Type 0} (node : Node) (device : Disks D) (journal : Journal D) : Type 0 where
  pub state : State
  pub is_decoded : decoded_in node (areas_of device journal) ≡ Ok state
  pub room : HasRoom node (generation_in journal) state

-- if a journal is on two disks, the area that is read has its first group, which names the generation
abbrev pub HasBegun : {D : Type 0} → Disks D → Journal D → Type 0
HasBegun device journal = IsSome (spare_of journal) → reports (device.content (disk_of journal)) ≡ Some (Some (generation_in journal))

-- if a journal has a first record, that is a configuration in version 2
abbrev pub IsNewest : Areas → Type 0
IsNewest areas = (first : Record) (rest : List Record) → stands_in areas ≡ Ok (first ∷ rest) → shaped_version first.bytes ≡ Some Second

-- What a renewal made of a journal on two disks. The journal decodes to the same state before, at every moment in between, and after it.
pub record IsRenewed {X D : Type 0} (node : Node) (device : Disks D) (old : Journal D) (result : Result X JournalError) (new : Journal D) : Type 0 where
  pub alive : OnOk result (IsAlive device new)
  pub two : IsSome (spare_of new)
  pub same : OnOk result (decoded_in node (areas_of device new) ≡ decoded_in node (areas_of device old))
  pub configured : OnOk result (stands_in (areas_of device new) ≢ Ok [])
  pub newest : OnOk result (IsNewest (areas_of device new))
  pub kept : OnOk result (KeepsStatesIn node (areas_of device old) (areas_of device new))
  pub errors : IfErr result (λ error. (error ≡ Device) ⊎ (error ≡ Memory) ⊎ (error ≡ Full))
  pub full : IfErr result (λ error. error ≡ Full → IsFullAt node device old)
  pub cause : ReportsFault Device (faults_of_both device (disks_of old)) (faults_of_both device (disks_of new)) result
  pub unchanged : IfErr result (λ error. error ≢ Device → new ≡ old)
  pub any_moment : IsStage device (λ one other. decoded_in node (pair one other) ≡ decoded_in node (areas_of device old)) (disks_of old) (disks_of new)

-- a journal on two disks had room for a checkpoint and was rewritten to it: the other area is read now, with the next generation
pub record IsRewritten {D : Type 0} (node : Node) (device : Disks D) (old new : Journal D) : Type 0 where
  pub room : HasRoomAt node device old
  pub places : HaveChangedPlaces old new

-- A renewal rewrites a journal in the first version. Any other journal stays in its area, with its generation.
pub record IsPlaced {D : Type 0} (node : Node) (device : Disks D) (version : Option Version) (old new : Journal D) : Type 0 where
  pub rewritten : version ≡ Some First → IsRewritten node device old new
  pub stays : version ≢ Some First → HaveKeptPlaces old new

-- Which area of a journal is read after its opening. By the first groups of both areas it is the one on `side`, with `generation`. But if
-- the journal was in version 1 it was rewritten as a checkpoint, so the other area is read, with the next generation.
pub record IsReadOn {D : Type 0} (node : Node) (one other : List ℕ) (journal : Journal D) : Type 0 where
  pub records : List Record
  pub stands_for : stands_in (pair one other) ≡ Ok records
  pub side : Side
  pub generation : ℕ
  pub chosen : IsChoice side generation (reports one) (reports other)
  pub rewritten : version_in records ≡ Some First → (side_in journal ≡ other_side side) × (generation_in journal ≡ generation + 1)
  pub room : version_in records ≡ Some First → (state : State) × (decoded_in node (pair one other) ≡ Ok state) × HasRoom node generation state
  pub stays : version_in records ≢ Some First → (side_in journal ≡ side) × (generation_in journal ≡ generation)
