-- What a journal on a disk is, and what a stop of the machine may leave of it.
use Rattle.std.specs.Prelude.{◌≡◌, ◌≢◌, ◌⊎◌, ℕ, ◌+◌, ◌-◌, ◌<◌, ◌≤◌, List, [], ◌∷◌, ◌++◌, length, take, Option, Some, Result, Ok, Err, IfOk, IfErr, IfSome}
use Rattle.diskmodel.specs.Disk.{LeavesOnly, Device}
use Rattle.diskmodel.specs.declared.call.Call.{Call}
use Rattle.diskmodel.specs.declared.call.Call.TheVariants.{Wrote, Synced}
use Rattle.journal.specs.declared.error.Failed.{Failed}
use Rattle.journal.specs.declared.layout.TheConstants.{CLOSED, OPEN}
use Rattle.journal.specs.declared.record.Record.{Record}
use Rattle.journal.specs.declared.journal.Journal.{Journal}
use Rattle.journal.specs.declared.side.Side.{Side}
use Rattle.journal.specs.declared.side.Side.TheVariants.{First}
use Rattle.journal.specs.declared.spare.Spare.{Spare}
use Rattle.journal.specs.Areas.{reports, IsAtRest}
use Rattle.journal.specs.Format.{group_bytes, kept, walk, stands, ScansTo}

-- the disk to which a journal appends
abbrev pub disk_of : {D : Type 0} → Journal D → D
disk_of journal = journal.disk

-- the spare disk of a journal on two disks, with the side and the generation of the area to which the journal appends
abbrev pub spare_of : {D : Type 0} → Journal D → Option (Spare D)
spare_of journal = journal.spare

-- the disk after a call that took it by value: it is in the result of the call, or the error hands it back
abbrev pub disk_after : {T D E : Type 0} → (T → D) → Result T (Failed E D) → D
disk_after disk_in (Ok given) = disk_in given
disk_after disk_in (Err failed) = failed.disk

-- A call that takes a disk and gives it back reports this error if and only if the disk has counted a failed call during it.
abbrev pub ReportsFaultBack : {T D E : Type 0} → Device D → (T → D) → E → D → Result T (Failed E D) → Type 0
ReportsFaultBack device disk_in error disk result =
    IfOk result (λ given. device.faults (disk_in given) ≡ device.faults disk)
    × IfErr result (λ failed. (failed.error ≡ error → device.faults disk < device.faults failed.disk)
    × (failed.error ≢ error → device.faults failed.disk ≡ device.faults disk))

-- A file is read as records without damage, and its last byte is the closed gate at which reading ends.
pub record EndsClosed (file : List ℕ) : Type 0 where
  pub records : List Record
  pub stands_for : stands file ≡ Ok records
  pub ends : walk 0 0 file ≡ Ok (records, length file - 1)
  pub some : 0 < length file

-- a journal on two disks to which no group was written yet: the first group will go to the first area
pub record IsNewPair (live spare : List ℕ) (side : Side) (generation : ℕ) : Type 0 where
  pub empty : live ≡ CLOSED ∷ []
  pub lowest : generation ≡ 0
  pub first : side ≡ First
  pub other_short : length spare ≡ 1

-- The two disks of a journal: the area to which it appends has its generation in its first group, unless the pair is new; the spare one is
-- at rest (it will not be read) and durable.
pub record IsAlivePair {D : Type 0} (device : Device D) (live : D) (spare : Spare D) : Type 0 where
  pub of_generation : (reports (device.content live) ≡ Some (Some spare.generation)) ⊎ IsNewPair (device.content live) (device.content spare.disk) spare.side spare.generation
  pub at_rest : IsAtRest spare.generation (device.content spare.disk)
  pub durable : LeavesOnly (device.content spare.disk) (device.outcome spare.disk)

-- A journal to which groups can be appended: its file ends with the closed gate at which reading ends, is durable, and has the length that
-- the journal has noted. A spare disk, if there is one, is durable too.
pub record IsAlive {D : Type 0} (device : Device D) (journal : Journal D) : Type 0 where
  pub ends_closed : EndsClosed (device.content (disk_of journal))
  pub len : journal.len ≡ length (device.content (disk_of journal))
  pub durable : LeavesOnly (device.content (disk_of journal)) (device.outcome (disk_of journal))
  pub pair : IfSome (spare_of journal) (IsAlivePair device (disk_of journal))

-- the four device calls by which a group is appended to a file of this length: the group is written after the file's closed gate, and the
-- file is synced; then the gate is opened by a write of its own, and the file is synced again
abbrev pub append_calls : ℕ → List (List ℕ) → List Call
append_calls len records = Wrote len (group_bytes records) ∷ Synced ∷ Wrote (len - 1) (OPEN ∷ []) ∷ Synced ∷ []

-- a disk made some of these calls after its earlier ones: the first ones, in their order
pub record MadeSome (calls old new : List Call) : Type 0 where
  pub made : List Call
  pub left : List Call
  pub are : calls ≡ made ++ left
  pub is : new ≡ old ++ made

-- a reading of a file with one more group: the records that were read before, and then those of the group whose gate is at this place
abbrev pub with_group : ℕ → List (List ℕ) → Result (List Record) ℕ → Result (List Record) ℕ
with_group gate group (Ok records) = Ok (records ++ kept gate group)
with_group gate group (Err place) = Err place

-- what this file is read as with one more group, whose gate is the file's last byte
abbrev pub stands_with : List ℕ → List (List ℕ) → Result (List Record) ℕ
stands_with file group = with_group (length file - 1) group (stands file)

-- What an opening leaves of a file: one closed gate if the file has at most one byte, and otherwise the bytes up to the closed gate at
-- which reading ends.
pub record IsClosedUp (file left : List ℕ) : Type 0 where
  pub short : length file < 2 → left ≡ CLOSED ∷ []
  pub long : 2 ≤ length file → (gate : ℕ) × ScansTo file gate × (left ≡ take (gate + 1) file)

-- what a stop during an append leaves is read as the records of the old file, or as those records and then the whole group
abbrev pub IsBeforeOrAfter : List ℕ → List (List ℕ) → List ℕ → Type 0
IsBeforeOrAfter file group left = (stands left ≡ stands file) ⊎ (stands left ≡ stands_with file group)

-- two files are read as the same records, without damage
abbrev pub HaveSameRecords : List ℕ → List ℕ → Type 0
HaveSameRecords file left = (records : List Record) × (stands file ≡ Ok records) × (stands left ≡ Ok records)

-- what a stop leaves is one of these outcomes byte for byte, or is read as the same records as one of them
abbrev pub StandsAsOneOf : (List ℕ → Type 0) → List ℕ → Type 0
StandsAsOneOf outcome left = outcome left ⊎ ((first : List ℕ) × outcome first × HaveSameRecords first left)

-- ---- two areas

-- two areas have the same generation, and are read as the same records
abbrev pub AreSame : List ℕ → List ℕ → Type 0
AreSame file left = (reports left ≡ reports file) × HaveSameRecords file left

-- what a stop leaves of an area is one of these outcomes byte for byte, or has the generation and the records of an undamaged one of them
abbrev pub IsAsOneOf : (List ℕ → Type 0) → List ℕ → Type 0
IsAsOneOf outcome left = outcome left ⊎ ((was : List ℕ) × outcome was × AreSame was left)

-- what a stop leaves is these bytes, or has the same generation and is read as the same records
abbrev pub IsSameAs : List ℕ → List ℕ → Type 0
IsSameAs file left = (left ≡ file) ⊎ AreSame file left
