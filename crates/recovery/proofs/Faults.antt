-- How many disks a desk is on, and how often they have failed.
use Rattle.std.proofs.Common.{◌≡◌, ◌≢◌, ◌⊎◌, ◌+◌, ◌<◌, ℕ, true, false, inl, inr, List, Result, Ok, Err, refl, sym, ap, ◌∙◌, subst, arith}
use Rattle.std.specs.Prelude.{Option, Some, None, IsSome, IfOk, IfErr, OnOk, OnErr, IsOk, IsErrOf, is_some}
use Rattle.std.specs.Option.{option_map_or}
use Rattle.diskmodel.specs.Disk.{Device, ReportsFault}
use Rattle.book.specs.declared.own.error.FlushError.{FlushError}
use Rattle.book.specs.declared.own.error.FlushError.TheVariants as errors
use Rattle.desk.specs.Disks.{MayLeave, of_one, of_two, IsOnAsMany}
use Rattle.journal.specs.Areas.{Areas, alone, pair, pair_of}
use Rattle.journal.specs.Journal.{disk_of, spare_of}
use Rattle.journal.specs.Pairs.{HaveChangedPlaces, HaveKeptPlaces, rewritten_disk, untouched_disk, spare_disk, two, store_of}
use Rattle.journal.specs.Spares.{by_area}
use Rattle.journal.specs.Stores.{faults_in}
use Rattle.journal.specs.declared.journal.Journal.{Journal}
use Rattle.journal.specs.declared.side.Side.{Side}
use Rattle.journal.specs.declared.side.Side.TheVariants.{First, Second}
use Rattle.journal.specs.declared.spare.Spare.{Spare}
use Rattle.journal.specs.declared.store.Store.TheVariants.{One}
use Rattle.recovery.specs.Script.{is_two}
use Rattle.recovery.specs.declared.driving.DriveError.{DriveError}
use Rattle.recovery.specs.declared.driving.DriveError.TheVariants as ends

-- ---- how many disks

two_by : {D : Type 0} (disk : D) (spare : Option (Spare D)) → is_two (option_map_or (λ s. two (by_area s.side disk s.disk)) spare (One disk)) ≡ is_some spare
two_by disk None = refl
two_by disk (Some spare) = refl

-- a journal is on two where it has a spare
pub two_is : {D : Type 0} (journal : Journal D) → is_two (store_of journal) ≡ is_some (spare_of journal)
two_is journal = two_by (disk_of journal) (spare_of journal)

some_of : {X : Type 0} (found : Option X) → is_some found ≡ true → IsSome found
some_of None some = cc
some_of (Some x) some = refl

of_some : {X : Type 0} (found : Option X) → IsSome found → is_some found ≡ true
of_some {X} None some = absurd (none X some)
  where
    none : (Y : Type 0) → IsSome {T = Y} None → ⊥
    none Y same = cc
of_some (Some x) some = refl

pub on_two : {D : Type 0} (journal : Journal D) → is_two (store_of journal) ≡ true → IsSome (spare_of journal)
on_two journal two = some_of (spare_of journal) (sym (two_is journal) ∙ two)

pub two_of : {D : Type 0} (journal : Journal D) → IsSome (spare_of journal) → is_two (store_of journal) ≡ true
two_of journal some = two_is journal ∙ of_some (spare_of journal) some

pub disks_same : {D : Type 0} (old new : Journal D) → spare_of new ≡ spare_of old → is_two (store_of new) ≡ is_two (store_of old)
disks_same old new same = two_is new ∙ ap is_some same ∙ sym (two_is old)

-- what was opened on what a stop left is on as many
none_is : {D : Type 0} (journal : Journal D) → spare_of journal ≡ None → is_two (store_of journal) ≡ false
none_is journal none = two_is journal ∙ ap is_some none

as_many : {D : Type 0} (new : Journal D) (side : Side) (live other : List ℕ) → IsOnAsMany (pair_of side live other) new → IsSome (spare_of new)
as_many new First live other on = on
as_many new Second live other on = on

pub on_as_many : {D : Type 0} (device : Device D) (old new : Journal D) (areas : Areas) → MayLeave device old areas → IsOnAsMany areas new → is_two (store_of new) ≡ is_two (store_of old)
on_as_many device old new areas (of_one left none may are) on =
    none_is new (subst (λ (a : Areas). IsOnAsMany a new) are on) ∙ sym (none_is old none)
on_as_many device old new areas (of_two spare live other is may also are) on =
    two_of new (as_many new spare.side live other (subst (λ (a : Areas). IsOnAsMany a new) are on)) ∙ sym (two_is old ∙ ap is_some is)

-- ---- how often they have failed

-- both
two_sum : {D : Type 0} (device : Device D) (side : Side) (live other : D) → faults_in device (two (by_area side live other)) ≡ device.faults live + device.faults other
two_sum device First live other = refl
two_sum device Second live other = omega arith

sum_by : {D : Type 0} (device : Device D) (disk : D) (spare : Option (Spare D)) → IsSome spare
    → faults_in device (option_map_or (λ s. two (by_area s.side disk s.disk)) spare (One disk)) ≡ device.faults disk + device.faults (option_map_or (λ s. s.disk) spare disk)
sum_by {D} device disk None some = absurd (none (Spare D) some)
  where
    none : (Y : Type 0) → IsSome {T = Y} None → ⊥
    none Y same = cc
sum_by device disk (Some spare) some = two_sum device spare.side disk spare.disk

pub faults_of_two : {D : Type 0} (device : Device D) (journal : Journal D) → IsSome (spare_of journal)
    → faults_in device (store_of journal) ≡ device.faults (disk_of journal) + device.faults (spare_disk journal)
faults_of_two device journal some = sum_by device (disk_of journal) (spare_of journal) some

-- where one disk alone is called
one_by : {D : Type 0} (device : Device D) (live now : D) (spare : Option (Spare D))
    → faults_in device (option_map_or (λ s. two (by_area s.side now s.disk)) spare (One now)) + device.faults live
    ≡ faults_in device (option_map_or (λ s. two (by_area s.side live s.disk)) spare (One live)) + device.faults now
one_by device live now None = omega arith
one_by device live now (Some spare) = omega (arith, two_sum device spare.side now spare.disk, two_sum device spare.side live spare.disk)

faults_moved : {D : Type 0} (device : Device D) (old new : Journal D) → spare_of new ≡ spare_of old
    → faults_in device (store_of new) + device.faults (disk_of old) ≡ faults_in device (store_of old) + device.faults (disk_of new)
faults_moved {D} device old new same =
    ap (λ (s : Option (Spare D)). faults_in device (option_map_or (λ o. two (by_area o.side (disk_of new) o.disk)) s (One (disk_of new))) + device.faults (disk_of old)) same
    ∙ one_by device (disk_of old) (disk_of new) (spare_of old)

-- what is told of one disk's count is told of all, where these grow alike
reports_alike : {X E : Type 0} (error : E) (before now all_before all_now : ℕ) → all_now + before ≡ all_before + now → (result : Result X E) → ReportsFault error before now result
    → ReportsFault error all_before all_now result
reports_alike error before now all_before all_now alike (Ok value) reports = let same = reports.0 in (omega (arith, alike, same), tt)
reports_alike error before now all_before all_now alike (Err other) reports =
    (tt, (λ is. let more = reports.1.0 is in omega (arith, alike, more), λ not. let same = reports.1.1 not in omega (arith, alike, same)))

-- ---- the errors of a script

pub record Answers {X : Type 0} (answer : Result ℕ FlushError) (result : Result X DriveError) : Type 0 where
  pub ok : OnOk result (IsOk answer)
  pub memory : IsErrOf result ends.Memory → IsErrOf answer errors.Memory
  pub device : IsErrOf result ends.Device → IsErrOf answer errors.Device
  pub full : IsErrOf result ends.Full → IsErrOf answer errors.Full
  pub errors : IfErr result (λ error. (error ≡ ends.Memory) ⊎ ((error ≡ ends.Device) ⊎ (error ≡ ends.Full)))

other_than : (error : DriveError) → (error ≡ ends.Memory) ⊎ (error ≡ ends.Full) → error ≡ ends.Device → ⊥
other_than error (inl memory) device = cc
other_than error (inr full) device = cc

memory_not : errors.Memory ≢ errors.Device
memory_not same = cc

full_not : errors.Full ≢ errors.Device
full_not same = cc

-- it answers the disk's error exactly where the call did
pub reports_drive : {X : Type 0} (before now : ℕ) (answer : Result ℕ FlushError) (result : Result X DriveError) → Answers answer result → ReportsFault errors.Device before now answer
    → ReportsFault ends.Device before now result
reports_drive before now (Ok count) (Ok value) is reports = (reports.0, tt)
reports_drive before now (Err error) (Ok value) is reports = absurd (err_not is.ok)
  where
    err_not : IsOk {T = ℕ} (Err error) → ⊥
    err_not same = cc
reports_drive {X} before now answer (Err error) is reports = by is.errors
  where
    by : (error ≡ ends.Memory) ⊎ ((error ≡ ends.Device) ⊎ (error ≡ ends.Full)) → ReportsFault {T = X} ends.Device before now (Err error)
    by (inl memory) =
        let at = subst (ReportsFault errors.Device before now) (is.memory (ap (λ e. Err e) memory)) reports in
        (tt, (λ device. absurd (other_than error (inl memory) device), λ _. at.1.1 memory_not))
    by (inr (inl device)) =
        let at = subst (ReportsFault errors.Device before now) (is.device (ap (λ e. Err e) device)) reports in
        (tt, (λ _. at.1.0 refl, λ not. absurd (not device)))
    by (inr (inr full)) =
        let at = subst (ReportsFault errors.Device before now) (is.full (ap (λ e. Err e) full)) reports in
        (tt, (λ device. absurd (other_than error (inr full) device), λ _. at.1.1 full_not))

-- a round calls one disk
pub flush_cause : {X D : Type 0} (device : Device D) (old new : Journal D) → spare_of new ≡ spare_of old → (answer : Result ℕ FlushError) (result : Result X DriveError) → Answers answer result
    → ReportsFault errors.Device (device.faults (disk_of old)) (device.faults (disk_of new)) answer
    → ReportsFault ends.Device (faults_in device (store_of old)) (faults_in device (store_of new)) result
flush_cause device old new same answer result is reports =
    reports_alike ends.Device (device.faults (disk_of old)) (device.faults (disk_of new)) (faults_in device (store_of old)) (faults_in device (store_of new)) (faults_moved device old new same) result
    (reports_drive (device.faults (disk_of old)) (device.faults (disk_of new)) answer result is reports)

-- and so does a checkpoint, after which the disks may have changed places
rewriting_sum : {D : Type 0} (device : Device D) (old new : Journal D) (answer : Result ℕ FlushError) → IsSome (spare_of old) → IfOk answer (λ generation. HaveChangedPlaces old new)
    → OnErr answer (HaveKeptPlaces old new) → untouched_disk answer new ≡ disk_of old
    → faults_in device (store_of new) + device.faults (spare_disk old) ≡ faults_in device (store_of old) + device.faults (rewritten_disk answer new)
rewriting_sum device old new (Ok generation) two changed kept untouched =
    omega (arith, faults_of_two device new changed.pair, faults_of_two device old two, ap device.faults changed.spare)
rewriting_sum device old new (Err error) two changed kept untouched =
    omega (arith, faults_of_two device new kept.pair, faults_of_two device old two, ap device.faults untouched)

pub rewriting_cause : {X D : Type 0} (device : Device D) (old new : Journal D) → IsSome (spare_of old) → (answer : Result ℕ FlushError) (result : Result X DriveError) → Answers answer result
    → IfOk answer (λ generation. HaveChangedPlaces old new) → OnErr answer (HaveKeptPlaces old new) → untouched_disk answer new ≡ disk_of old
    → ReportsFault errors.Device (device.faults (spare_disk old)) (device.faults (rewritten_disk answer new)) answer
    → ReportsFault ends.Device (faults_in device (store_of old)) (faults_in device (store_of new)) result
rewriting_cause device old new two answer result is changed kept untouched reports =
    reports_alike ends.Device (device.faults (spare_disk old)) (device.faults (rewritten_disk answer new)) (faults_in device (store_of old)) (faults_in device (store_of new))
    (rewriting_sum device old new answer two changed kept untouched) result
    (reports_drive (device.faults (spare_disk old)) (device.faults (rewritten_disk answer new)) answer result is reports)

pub disks_kept : {D : Type 0} (old new : Journal D) (answer : Result ℕ FlushError) → IsSome (spare_of old) → IfOk answer (λ generation. HaveChangedPlaces old new)
    → OnErr answer (HaveKeptPlaces old new) → is_two (store_of new) ≡ is_two (store_of old)
disks_kept old new (Ok generation) two changed kept = two_of new changed.pair ∙ sym (two_of old two)
disks_kept old new (Err error) two changed kept = two_of new kept.pair ∙ sym (two_of old two)
