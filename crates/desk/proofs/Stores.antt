-- What a journal was opened on, when its machine stops.
use Rattle.std.proofs.Common.{◌≡◌, ◌<◌, ℕ, List, Result, Ok, Err, refl, sym, ◌∙◌, subst}
use Rattle.std.specs.Prelude.{Option, Some, None, IfErr}
use Rattle.std.specs.Option.{option_map_or}
use Rattle.diskmodel.specs.Disk.{Device}
use Rattle.journal.specs.Areas.{Areas, alone, pair, pair_of}
use Rattle.journal.specs.Journal.{disk_of, spare_of, IsAlive}
use Rattle.journal.specs.Pairs.{areas_in, areas_of, two, store_of}
use Rattle.journal.specs.Spares.{by_area}
use Rattle.journal.specs.Stores.{ReportsFaultsBack}
use Rattle.journal.specs.declared.error.Failed.{Failed}
use Rattle.journal.specs.declared.journal.Journal.{Journal}
use Rattle.journal.specs.declared.side.Side.{Side}
use Rattle.journal.specs.declared.side.Side.TheVariants.{First, Second}
use Rattle.journal.specs.declared.spare.Spare.{Spare}
use Rattle.journal.specs.declared.store.Store.{Store}
use Rattle.journal.specs.declared.store.Store.TheVariants.{One}
use Rattle.desk.specs.Disks.{MayLeave, of_one, of_two, Leaves}
use Rattle.desk.proofs.Reading.{over, areas_over}
use Rattle.desk.proofs.Standing.{durable_left}

-- what two disks may leave is what each may leave
record LeavesBoth {D : Type 0} (device : Device D) (side : Side) (live other : D) (areas : Areas) : Type 0 where
  first : List ℕ
  may : device.outcome live first
  second : List ℕ
  also : device.outcome other second
  are : areas ≡ pair_of side first second

leaves_both : {D : Type 0} (device : Device D) (side : Side) (live other : D) (areas : Areas) → Leaves device (two (by_area side live other)) areas → LeavesBoth device side live other areas
leaves_both device side live other (alone left) may = absurd may
leaves_both device First live other (pair one left) may = record { first = one; may = may.0; second = left; also = may.1; are = refl }
leaves_both device Second live other (pair one left) may = record { first = left; may = may.1; second = one; also = may.0; are = refl }

may_by : {D : Type 0} (device : Device D) (journal : Journal D) (spare : Option (Spare D)) → spare_of journal ≡ spare → (areas : Areas)
    → Leaves device (option_map_or (λ s. two (by_area s.side (disk_of journal) s.disk)) spare (One (disk_of journal))) areas → MayLeave device journal areas
may_by device journal None same (alone left) may = of_one left same may refl
may_by device journal None same (pair one other) may = absurd may
may_by device journal (Some spare) same areas may =
    let both = leaves_both device spare.side (disk_of journal) spare.disk areas may in
    of_two spare both.first both.second same both.may both.also both.are

-- what the disks of a journal may leave, it may leave
pub may_leave : {D : Type 0} (device : Device D) (journal : Journal D) (store : Store D) → store ≡ store_of journal → (areas : Areas) → Leaves device store areas → MayLeave device journal areas
may_leave device journal store same areas may =
    may_by device journal (spare_of journal) refl areas (subst (λ (s : Store _). Leaves device s areas) same may)

-- which of them have failed is counted from any moment since which none has
pub faults_from : {S T E : Type 0} (faults : S → ℕ) (disks_in : T → S) (error : E) (one other : S) → faults other ≡ faults one → (result : Result T (Failed E S))
    → ReportsFaultsBack faults disks_in error other result → ReportsFaultsBack faults disks_in error one result
faults_from faults disks_in error one other same (Ok given) reports = (reports.0 ∙ same, tt)
faults_from faults disks_in error one other same (Err failed) reports =
    (tt, (λ is. subst (λ (n : ℕ). n < faults failed.disk) same (reports.1.0 is), λ not. reports.1.1 not ∙ same))

-- what holds in any case holds of an error
pub on_err : {T E : Type 0} (result : Result T E) (X : Type 0) → X → IfErr result (λ error. X)
on_err (Ok given) X is = tt
on_err (Err error) X is = is

-- and what follows of two things that are said of an error
pub err_both : {T E : Type 0} (result : Result T E) (P Q R : E → Type 0) → ((error : E) → P error → Q error → R error) → IfErr result P → IfErr result Q → IfErr result R
err_both (Ok given) P Q R both one other = tt
err_both (Err error) P Q R both one other = both error one other

-- ---- what a read gives

both_areas : {D : Type 0} (device : Device D) (side : Side) (live other : D) → areas_in device (two (by_area side live other)) ≡ pair_of side (device.content live) (device.content other)
both_areas device First live other = refl
both_areas device Second live other = refl

store_by : {D : Type 0} (device : Device D) (disk : D) (spare : Option (Spare D))
    → areas_in device (option_map_or (λ s. two (by_area s.side disk s.disk)) spare (One disk)) ≡ over device spare (device.content disk)
store_by device disk None = refl
store_by device disk (Some spare) = both_areas device spare.side disk spare.disk

-- the disks of a journal have its areas
pub store_areas : {D : Type 0} (device : Device D) (journal : Journal D) → areas_in device (store_of journal) ≡ areas_of device journal
store_areas device journal = store_by device (disk_of journal) (spare_of journal) ∙ sym (areas_over device journal)

-- and leave no others where they are durable
pub durable_store : {D : Type 0} (device : Device D) (journal : Journal D) → IsAlive device journal → (areas : Areas) → Leaves device (store_of journal) areas
    → areas ≡ areas_in device (store_of journal)
durable_store device journal alive areas may =
    durable_left device journal alive areas (may_leave device journal (store_of journal) refl areas may) ∙ sym (store_areas device journal)
