-- What a round of a desk is to a script.
use Rattle.std.proofs.Common.{◌≡◌, ◌≢◌, ◌⊎◌, ℕ, inl, inr, List, [], ◌∷◌, Result, Ok, Err, refl, sym, ap, ◌∙◌, subst}
use Rattle.std.specs.Prelude.{None, IfOk, IfErr, OnOk, IsOk, IsErrOf}
use Rattle.book.specs.InFlight.{Flushes, FindsNoRoom, IsWithOrWithout}
use Rattle.book.specs.declared.own.error.FlushError.{FlushError}
use Rattle.book.specs.declared.own.error.FlushError.TheVariants as errors
use Rattle.desk.specs.Desk as desks
use Rattle.desk.specs.Disks.{Leaves}
use Rattle.journal.specs.Journal.{disk_of, spare_of, IsAlive}
use Rattle.journal.specs.Pairs.{areas_in, store_of}
use Rattle.journal.specs.Stores.{faults_in}
use Rattle.journal.specs.declared.journal.Journal.{Journal}
use Rattle.spec_model.specs.Nodes.{Node}
use Rattle.spec_world.specs.Text.{Desk, flush, after}
use Rattle.recovery.specs.Script.{IsOf, Breaks}
use Rattle.recovery.specs.declared.driving.DriveError.{DriveError}
use Rattle.recovery.specs.declared.driving.DriveError.TheVariants as ends
use Rattle.recovery.proofs.Desks.{flushes_is, nothing_flushed, same_breaks, device_breaks, full_breaks}
use Rattle.diskmodel.specs.Disk.{Device}

module _ {S D : Type 0} (node : Node) (device : Device D) (script : Desk) (before later : desks.DeskView S D) (is : IsOf node device script before.book before.journal) where
  by_pending : (pending : List (List ℕ)) (count : ℕ) → before.book.pending ≡ pending → (before.book.pending ≡ [] → later ≡ before)
      → (before.book.pending ≢ [] → Flushes node before.book later.book (device.content (disk_of before.journal)) (device.content (disk_of later.journal)) count)
      → IsAlive device later.journal → spare_of later.journal ≡ spare_of before.journal → IsOf node device (after node script flush) later.book later.journal
  by_pending [] count none idle flushes alive same =
      subst (λ (d : desks.DeskView S D). IsOf node device (after node script flush) d.book d.journal) (sym (idle none))
      (nothing_flushed node device script before.book before.journal is none)
  by_pending (first ∷ rest) count some idle flushes alive same =
      flushes_is node device script before.book before.journal is later.book later.journal (device.content (disk_of before.journal)) (device.content (disk_of later.journal)) count refl refl
      (flushes (λ none. some_none (sym some ∙ none))) alive same
    where
      some_none : first ∷ rest ≡ [] → ⊥
      some_none same = cc

  -- after one that succeeded
  pub round_is : (answer : Result ℕ FlushError) → IsOk answer → OnOk answer (before.book.pending ≡ [] → (answer ≡ Ok 0) × (later ≡ before))
      → IfOk answer (λ count. before.book.pending ≢ [] → Flushes node before.book later.book (device.content (disk_of before.journal)) (device.content (disk_of later.journal)) count)
      → OnOk answer (IsAlive device later.journal) → spare_of later.journal ≡ spare_of before.journal → IsOf node device (after node script flush) later.book later.journal
  round_is (Ok count) ok idle flushes alive same = by_pending before.book.pending count refl (λ none. (idle none).1) flushes alive same
  round_is (Err error) ok idle flushes alive same = absurd cc

  -- after one that failed
  pub round_breaks : (answer : Result ℕ FlushError) (error : DriveError) → (error ≡ ends.Memory) ⊎ ((error ≡ ends.Device) ⊎ (error ≡ ends.Full))
      → (error ≡ ends.Memory → IsErrOf answer errors.Memory) → (error ≡ ends.Device → IsErrOf answer errors.Device) → (error ≡ ends.Full → IsErrOf answer errors.Full)
      → IfErr answer (λ e. (e ≡ errors.Down) ⊎ (e ≡ errors.Memory) → later ≡ before)
      → (IsErrOf answer errors.Full → FindsNoRoom node before.book later.book (device.content (disk_of before.journal))) → (IsErrOf answer errors.Full → later.journal ≡ before.journal)
      → spare_of later.journal ≡ spare_of before.journal → ((bytes : List ℕ) → device.outcome (disk_of later.journal) bytes
      → IsWithOrWithout before.book.pending (device.content (disk_of before.journal)) bytes)
      → Breaks node script flush error (areas_in device (store_of later.journal)) (Leaves device (store_of later.journal))
  round_breaks answer error (inl so) memory failed full unchanged no_room same spare left =
      let answered = memory so in
      let kept = subst (λ (r : Result ℕ FlushError). IfErr r (λ e. (e ≡ errors.Down) ⊎ (e ≡ errors.Memory) → later ≡ before)) answered unchanged (inr refl) in
      subst (λ (d : desks.DeskView S D). Breaks node script flush error (areas_in device (store_of d.journal)) (Leaves device (store_of d.journal))) (sym kept)
      (same_breaks node device script before.book before.journal is flush error so)
  round_breaks answer error (inr (inl so)) memory failed full unchanged no_room same spare left =
      subst (λ (e : DriveError). Breaks node script flush e (areas_in device (store_of later.journal)) (Leaves device (store_of later.journal))) (sym so)
      (device_breaks node device script before.book before.journal is later.journal spare left)
  round_breaks answer error (inr (inr so)) memory failed full unchanged no_room same spare left =
      subst (λ (e : DriveError). Breaks node script flush e (areas_in device (store_of later.journal)) (Leaves device (store_of later.journal))) (sym so)
      (full_breaks node device script before.book before.journal is later.book later.journal (same (full so)) (no_room (full so)))

-- the faults of a disk that it left as it was
pub faults_same : {S D : Type 0} (device : Device D) (before later : desks.DeskView S D) (answer : Result ℕ FlushError) (error : DriveError)
    → (error ≡ ends.Memory) ⊎ ((error ≡ ends.Device) ⊎ (error ≡ ends.Full))
    → (error ≡ ends.Memory → IsErrOf answer errors.Memory) → (error ≡ ends.Full → IsErrOf answer errors.Full)
    → IfErr answer (λ e. (e ≡ errors.Down) ⊎ (e ≡ errors.Memory) → later ≡ before) → (IsErrOf answer errors.Full → later.journal ≡ before.journal)
    → error ≢ ends.Device → faults_in device (store_of later.journal) ≡ faults_in device (store_of before.journal)
faults_same {S} {D} device before later answer error (inl so) memory full unchanged same other =
    ap (λ (d : desks.DeskView S D). faults_in device (store_of d.journal))
    (subst (λ (r : Result ℕ FlushError). IfErr r (λ e. (e ≡ errors.Down) ⊎ (e ≡ errors.Memory) → later ≡ before)) (memory so) unchanged (inr refl))
faults_same {S} {D} device before later answer error (inr (inl so)) memory full unchanged same other = absurd (other so)
faults_same {S} {D} device before later answer error (inr (inr so)) memory full unchanged same other = ap (λ (j : Journal D). faults_in device (store_of j)) (same (full so))

-- what holds of an error where the call answered it
pub err_with : {A E : Type 0} (r : Result A E) (P Q : E → Type 0) → ((error : E) → r ≡ Err error → P error → Q error) → IfErr r P → IfErr r Q
err_with (Ok x) P Q more is = tt
err_with (Err error) P Q more is = more error refl is
