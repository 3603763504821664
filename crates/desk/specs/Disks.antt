-- What the disks of a journal decode to, and what a stop may leave of them.
use Rattle.std.specs.Prelude.{◌≡◌, ℕ, List, Some, None, Ok, IsSome}
use Rattle.diskmodel.specs.Disk.{Device}
use Rattle.journal.specs.Areas.{Areas, alone, pair, pair_of}
use Rattle.journal.specs.Journal.{disk_of, spare_of}
use Rattle.journal.specs.Pairs.{areas_in}
use Rattle.journal.specs.Stores.{faults_in}
use Rattle.journal.specs.declared.store.Store.{Store}
use Rattle.journal.specs.declared.store.Store.TheVariants.{One, Two}
use Rattle.journal.specs.declared.journal.Journal.{Journal}
use Rattle.journal.specs.declared.spare.Spare.{Spare}
use Rattle.opening.specs.Renewing.{IsNewest}
use Rattle.opening.specs.Decoded.{decoded}
use Rattle.spec_model.specs.Nodes.{Node}
use Rattle.spec_model.specs.States.{State}
use Rattle.spec_world.specs.World.{Holds}

-- areas are a proper journal of the node with this state, in version 2
pub record AreHeld (node : Node) (areas : Areas) (state : State) : Type 0 where
  pub holds : Holds node areas state
  pub newest : IsNewest areas

-- areas are read as this state: one area decodes to it, and two areas are a proper journal of the node with it
abbrev pub AreReadAs : Node → Areas → State → Type 0
AreReadAs node (alone bytes) state = decoded node bytes ≡ Ok state
AreReadAs node (pair first second) state = AreHeld node (pair first second) state

-- a stop may leave these areas of the disks of a journal: of each disk one of its possible outcomes
pub data MayLeave {D : Type 0} (device : Device D) (journal : Journal D) (areas : Areas) : Type 0 where
  of_one : (left : List ℕ) → spare_of journal ≡ None → device.outcome (disk_of journal) left → areas ≡ alone left → MayLeave device journal areas
  of_two : (spare : Spare D) (live other : List ℕ) → spare_of journal ≡ Some spare → device.outcome (disk_of journal) live → device.outcome spare.disk other
      → areas ≡ pair_of spare.side live other → MayLeave device journal areas

-- a stop may leave these areas of disks that are not open as a journal
abbrev pub Leaves : {D : Type 0} → Device D → Store D → Areas → Type 0
Leaves device (One disk) (alone left) = device.outcome disk left
Leaves device (Two first second) (pair one other) = device.outcome first one × device.outcome second other
Leaves device store areas = ⊥

-- the journal is on as many disks as there are areas
abbrev pub IsOnAsMany : {D : Type 0} → Areas → Journal D → Type 0
IsOnAsMany (alone bytes) journal = spare_of journal ≡ None
IsOnAsMany (pair one other) journal = IsSome (spare_of journal)

-- the machine of these disks stopped: a read now gives a possible outcome of the stop, and a further stop has no new outcomes
pub record HaveStopped {D : Type 0} (device : Device D) (before later : Store D) : Type 0 where
  pub content : Leaves device before (areas_in device later)
  pub outcomes : (areas : Areas) → Leaves device later areas → Leaves device before areas
  pub faults : faults_in device later ≡ faults_in device before
