-- What an opening makes of a store, which is one disk or two.
use Rattle.std.specs.Prelude.{◌≡◌, ◌≢◌, ℕ, ◌+◌, ◌<◌, None, IsSome, Result, IfOk, IfErr}
use Rattle.diskmodel.specs.Disk.{Device, AtEachMoment}
use Rattle.journal.specs.declared.error.Failed.{Failed}
use Rattle.journal.specs.declared.journal.Journal.{Journal}
use Rattle.journal.specs.declared.store.Store.{Store}
use Rattle.journal.specs.declared.store.Store.TheVariants.{One, Two}
use Rattle.journal.specs.Areas.{reports}
use Rattle.journal.specs.Journal.{disk_of, spare_of, IsClosedUp, StandsAsOneOf, IsAsOneOf}
use Rattle.journal.specs.Opened.{on_side, off_side, IsChoice, IsRested}
use Rattle.journal.specs.Pairs.{spare_disk, side_in, generation_in}
use Rattle.journal.specs.Spares.{by_area}

-- both disks of a journal, in the order of their areas
abbrev pub disks_of : {D : Type 0} → Journal D → D × D
disks_of journal = by_area (side_in journal) (disk_of journal) (spare_disk journal)

-- how many failed calls these two disks have counted together
abbrev pub faults_of_both : {D : Type 0} → Device D → D × D → ℕ
faults_of_both device disks = device.faults disks.0 + device.faults disks.1

-- how many failed calls the disks of a store have counted
abbrev pub faults_in : {D : Type 0} → Device D → Store D → ℕ
faults_in device (One disk) = device.faults disk
faults_in device (Two first second) = faults_of_both device (first, second)

-- A call that takes disks and gives them back reports this error if and only if one of them has counted a failed call during it. The first
-- argument counts the failed calls of the disks.
abbrev pub ReportsFaultsBack : {S T E : Type 0} → (S → ℕ) → (T → S) → E → S → Result T (Failed E S) → Type 0
ReportsFaultsBack faults disks_in error disks result =
    IfOk result (λ given. faults (disks_in given) ≡ faults disks)
    × IfErr result (λ failed. (failed.error ≡ error → faults disks < faults failed.disk) × (failed.error ≢ error → faults failed.disk ≡ faults disks))

-- which disk of a journal is read, and with which generation, follows from the first groups that these two disks had when they were opened
abbrev pub IsChosenOf : {D : Type 0} → Device D → D → D → Journal D → Type 0
IsChosenOf device first second journal =
    IsChoice (side_in journal) (generation_in journal) (reports (device.content first)) (reports (device.content second))

-- The disk that is read ends with its closed gate. The other one is one closed gate if its first gate was closed, and otherwise as it was.
pub record AreClosedUp {D : Type 0} (device : Device D) (first second : D) (journal : Journal D) : Type 0 where
  pub live : IsClosedUp (device.content (on_side (side_in journal) first second)) (device.content (disk_of journal))
  pub other : IsRested (device.content (off_side (side_in journal) first second)) (device.content (spare_disk journal))

-- this journal is what opening these disks gives
abbrev pub IsOpenedOn : {D : Type 0} → Device D → Store D → Journal D → Type 0
IsOpenedOn device (One disk) journal = (spare_of journal ≡ None) × IsClosedUp (device.content disk) (device.content (disk_of journal))
IsOpenedOn device (Two first second) journal =
    IsSome (spare_of journal) × IsChosenOf device first second journal × AreClosedUp device first second journal

-- Whatever a stop leaves of a disk at any moment of an opening, a stop before it might have left, or it is read as the same records.
abbrev pub OpensAtEachMoment : {D : Type 0} → Device D → Store D → Store D → Type 0
OpensAtEachMoment device (One old) (One new) = AtEachMoment device old new (StandsAsOneOf (device.outcome old))
OpensAtEachMoment device (Two first second) (Two now also) =
    AtEachMoment device first now (IsAsOneOf (device.outcome first)) × AtEachMoment device second also (IsAsOneOf (device.outcome second))
OpensAtEachMoment device old new = ⊥
