-- What a round and a checkpoint do, over all disks of the journal.
use Rattle.std.proofs.Common.{◌≡◌, ℕ, Bool, true, false, List, Option, Result, Ok, Err, refl, sym, subst, inl, inr}
use Rattle.std.specs.Prelude.{◌⊎◌, ◌↔◌, IsErrOf, IsSome, IsTrue, OnOk, OnErr}
use Rattle.flusher.specs.declared.FlushError.{FlushError}
use Rattle.flusher.specs.declared.FlushError.TheVariants as flush
use Rattle.diskmodel.specs.Disk.{AtEachMoment, Device, ReportsFault}
use Rattle.flusher.specs.Rounds.{journal_of, is_down, settled_in, taken_in, areas_at, IsFlusherOf, HoldsEither, KeepsEarlier, GoesDown, TakesAndSettles, TakesAllAndSettles, TakesLongest, TakesAll}
use Rattle.flusher.specs.declared.flusher.Flusher.{Flusher}
use Rattle.journal.specs.Areas.{Areas}
use Rattle.journal.specs.Journal.{disk_of, spare_of}
use Rattle.journal.specs.Pairs.{areas_of, areas_with, spare_disk, store_of, rewritten_disk, untouched_disk, HaveChangedPlaces, HaveKeptPlaces}
use Rattle.journal.specs.declared.spare.Spare.{Spare}
use Rattle.node_seats.proofs.Beginnings.{begins_same}
use Rattle.node_seats.specs.Sights.{SeatView}
use Rattle.node_seats.specs.declared.view.Marked.{Marked}
use Rattle.node_shared.specs.Home.{NodeView}
use Rattle.sigface.specs.Scheme.{Scheme}
use Rattle.wire.specs.Lists.{Begins}
use Rattle.node.specs.Disks.{AtEachMomentOn}
use Rattle.node.specs.Rounds.{Flushes}
use Rattle.node.proofs.Stages.{Only, of_live, of_spare, fault_of_live, fault_of_spare}

-- a call that isn't of a node which is down is of one that is up
up_or_down : (Down : Type 0) (down : Bool) (Up : Type 0) → Down ↔ IsTrue down → (down ≡ false → Up) → Down ⊎ Up
up_or_down Down true Up is up = inl (is.1 refl)
up_or_down Down false Up is up = inr (up refl)

begins_taken : {X : Type 0} (settled taken : List Marked) (result : Result ℕ FlushError) → (X → Begins settled taken) → (IsErrOf result flush.Memory → taken ≡ settled)
    → IsErrOf result flush.Down ⊎ IsErrOf result flush.Memory ⊎ X → IsErrOf result flush.Down ⊎ Begins settled taken
begins_taken settled taken result by none (inl down) = inl down
begins_taken settled taken result by none (inr (inl memory)) = inr (subst (Begins settled) (sym (none memory)) (begins_same settled))
begins_taken settled taken result by none (inr (inr takes)) = inr (by takes)

both_pairs : {D T E : Type 0} (result : Result T E) (one other : Option (Spare D)) → IsSome one → OnOk result (IsSome other) → OnErr result (IsSome other) → IsSome other ↔ IsSome one
both_pairs (Ok given) one other some ok err = ((λ _. some), (λ _. ok))
both_pairs (Err error) one other some ok err = ((λ _. some), (λ _. err))

on_ok : {T E : Type 0} {A B : Type 0} (result : Result T E) → (A → B) → OnOk result A → OnOk result B
on_ok (Ok given) less is = less is
on_ok (Err error) less is = tt

on_err : {T E : Type 0} {A B : Type 0} (result : Result T E) → (A → B) → OnErr result A → OnErr result B
on_err (Ok given) less is = tt
on_err (Err error) less is = less is

module _ {S D : Type 0} (scheme : Scheme S) (device : Device D) (only : Only device) (node : NodeView S) (before later : Flusher D) (result : Result ℕ FlushError)
    (of : IsFlusherOf scheme device node before) (goes : GoesDown before later result) where
  abbrev Either : Areas → Type 0
  Either = HoldsEither scheme node (settled_in before) (taken_in later) (areas_of device (journal_of before))

  -- one of both, unless the node is down
  or_down : {X : Type 0} → IsErrOf result flush.Down ⊎ X → (X → is_down before ≡ false → AtEachMomentOn device Either (store_of (journal_of before)) (store_of (journal_of later)))
      → IsErrOf result flush.Down ⊎ AtEachMomentOn device Either (store_of (journal_of before)) (store_of (journal_of later))
  or_down (inl down) by = inl down
  or_down (inr at) by = up_or_down (IsErrOf result flush.Down) (is_down before) _ goes.down (by at)

  pub round_flushes : (seat later_seat : SeatView) → TakesAndSettles seat later_seat before later result
      → ReportsFault flush.Device (device.faults (disk_of (journal_of before))) (device.faults (disk_of (journal_of later))) result → spare_of (journal_of later) ≡ spare_of (journal_of before)
      → IsErrOf result flush.Down ⊎ AtEachMoment device (disk_of (journal_of before)) (disk_of (journal_of later)) (λ left. Either (areas_at device (journal_of before) left))
      → OnOk result (KeepsEarlier scheme node (settled_in before) (settled_in later) (areas_of device (journal_of before)) (areas_of device (journal_of later)))
      → Flushes scheme device node before later result
  round_flushes seat later_seat settles cause same at earlier = record {
    takes = begins_taken {X = TakesLongest seat.view.seen (settled_in before) (taken_in later)} (settled_in before) (taken_in later) result (λ takes. takes.begins)
        (λ memory. (settles.memory memory).1) settles.takes;
    settled = settles.settled;
    not_settled = settles.not_settled;
    memory = settles.memory;
    any_moment = or_down at (λ moment up. of_live device Either only (journal_of before) (journal_of later) (of.alive up).pair same moment);
    earlier = earlier;
    cause = fault_of_live device flush.Device (journal_of before) (journal_of later) result same cause;
    disks = ((λ is. subst (λ (s : Option (Spare D)). IsSome s) same is), (λ is. subst (λ (s : Option (Spare D)). IsSome s) (sym same) is));
  }

  pub checkpoint_flushes : (seat later_seat : SeatView) → TakesAllAndSettles seat later_seat before later result → IsSome (spare_of (journal_of before))
      → ReportsFault flush.Device (device.faults (spare_disk (journal_of before))) (device.faults (rewritten_disk result (journal_of later))) result
      → OnOk result (HaveChangedPlaces (journal_of before) (journal_of later)) → OnErr result (HaveKeptPlaces (journal_of before) (journal_of later))
      → untouched_disk result (journal_of later) ≡ disk_of (journal_of before)
      → IsErrOf result flush.Down ⊎ AtEachMoment device (spare_disk (journal_of before)) (rewritten_disk result (journal_of later)) (λ left. Either (areas_with device (journal_of before) left))
      → OnOk result (KeepsEarlier scheme node (settled_in before) (settled_in later) (areas_of device (journal_of before)) (areas_of device (journal_of later)))
      → Flushes scheme device node before later result
  checkpoint_flushes seat later_seat settles some cause changed kept untouched at earlier = record {
    takes = begins_taken {X = TakesAll seat.view.seen (settled_in before) (taken_in later)} (settled_in before) (taken_in later) result (λ takes. takes.begins)
        (λ memory. (settles.memory memory).1) settles.takes;
    settled = settles.settled;
    not_settled = settles.not_settled;
    memory = settles.memory;
    any_moment = or_down at (λ moment up. of_spare device Either only result (journal_of before) (journal_of later) some (of.alive up).durable changed kept untouched moment);
    earlier = earlier;
    cause = fault_of_spare device flush.Device result (journal_of before) (journal_of later) some changed kept untouched cause;
    disks = both_pairs result (spare_of (journal_of before)) (spare_of (journal_of later)) some
        (on_ok {A = HaveChangedPlaces (journal_of before) (journal_of later)} result (λ it. it.pair) changed)
        (on_err {A = HaveKeptPlaces (journal_of before) (journal_of later)} result (λ it. it.pair) kept);
  }
