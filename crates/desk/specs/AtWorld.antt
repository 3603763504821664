-- Which state of the world (the model of all runs of a node) belongs to a desk (a running node with its journal, in the hands of one
-- owner).
use Rattle.std.specs.Prelude.{◌≡◌, ◌⊎◌, ℕ, true, false, List, [], ◌∷◌, ◌++◌, Some, IsSome}
use Rattle.book.specs.Steps as book
use Rattle.journal.specs.Areas.{Areas}
use Rattle.journal.specs.Journal.{disk_of, spare_of}
use Rattle.journal.specs.Pairs.{side_in, generation_in}
use Rattle.journal.specs.declared.journal.Journal.{Journal}
use Rattle.journal.specs.declared.layout.TheConstants.{OPEN}
use Rattle.spec_model.specs.Nodes.{Node, IsNode}
use Rattle.spec_world.specs.Runs.{device_calls, spare_calls}
use Rattle.spec_world.specs.World.{World, Spare}
use Rattle.spec_world.specs.Steps.{Move, settle, take_all, restart, IsTakenTo, IsTakenAll, Leads, IsRun}
use Rattle.desk.specs.Desk.{DeskView, IsOf}
use Rattle.diskmodel.specs.Disk.{Device}

-- the last move of the world took a group, while no other was in flight
pub record HasTaken (node : Node) (world : World) : Type 0 where
  pub before : World
  pub moves : List Move
  pub run : IsRun node moves before
  pub idle : before.groups ≡ []
  pub count : ℕ
  pub taken : IsTakenTo before count world

-- the last move of the world took all accepted events for a checkpoint, while nothing was in flight
pub record HasTakenAll (node : Node) (world : World) : Type 0 where
  pub before : World
  pub moves : List Move
  pub run : IsRun node moves before
  pub bytes : List ℕ
  pub taken : IsTakenAll node before bytes world

-- what was in flight when a desk went down: a group; or, on two disks, the rewriting to a checkpoint of all accepted events
pub data HasInFlight {D : Type 0} (node : Node) (world : World) (journal : Journal D) : Type 0 where
  a_group : HasTaken node world → HasInFlight node world journal
  a_checkpoint : IsSome (spare_of journal) → HasTakenAll node world → HasInFlight node world journal

-- in a world on two disks the same area is read as in this journal, and it has the same generation
pub record IsBeside {D : Type 0} (world : World) (journal : Journal D) : Type 0 where
  pub spare : Spare
  pub is : world.spare ≡ Some spare
  pub side : spare.side ≡ side_in journal
  pub generation : spare.generation ≡ generation_in journal

-- A desk stands at a world of its node's runs: it stands at the world's run, each output in its queue waits there, and its spare disk, if
-- any, is the world's. Nothing is in flight, except what was when the desk went down.
pub record IsAt {S D : Type 0} (node : Node) (device : Device D) (world : World) (desk : DeskView S D) : Type 0 where
  pub sound : IsNode node
  pub moves : List Move
  pub run : IsRun node moves world
  pub is_of_world : book.IsOf node world desk.book
  pub is_of : IsOf node device (book.run_of node world) desk
  pub idle : desk.book.down ≡ false → world.groups ≡ []
  pub in_flight : desk.book.down ≡ true → HasInFlight node world desk.journal
  pub beside : IsSome (spare_of desk.journal) → IsBeside world desk.journal

-- these moves lead from the world to another one, at which the desk stands
pub record LeadsTo {S D : Type 0} (node : Node) (device : Device D) (world : World) (moves : List Move) (desk : DeskView S D) : Type 0 where
  pub next : World
  pub leads : Leads node world moves next
  pub is_at : IsAt node device next desk

-- A checkpoint of a desk as moves of its world: all accepted events are taken, for the bytes that the disk then has after its open gate;
-- the eight device calls of the rewriting are made; and all is settled
abbrev pub CheckpointsAt : {S D : Type 0} → Node → Device D → World → DeskView S D → Type 0
CheckpointsAt node device world desk =
    (bytes : List ℕ) × (device.content (disk_of desk.journal) ≡ OPEN ∷ bytes) × LeadsTo node device world (take_all bytes ∷ (spare_calls 8 ++ settle ∷ [])) desk

-- the moves of a stop: the machine stops, and what that left is opened. A group or a rewriting that was in flight may have been finished
-- before
abbrev pub IsStop : World → List Move → Type 0
IsStop world moves = (found : Areas) × (IsRestart found ⊎ IsAfterAppend found ⊎ IsAfterRewriting found)
  where
    IsRestart : Areas → Type 0
    IsRestart found = moves ≡ restart found ∷ []

    IsAfterAppend : Areas → Type 0
    IsAfterAppend found = moves ≡ device_calls 4 ++ restart found ∷ []

    IsAfterRewriting : Areas → Type 0
    IsAfterRewriting found = moves ≡ spare_calls 8 ++ restart found ∷ []
