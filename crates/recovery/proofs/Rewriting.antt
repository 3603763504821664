-- What a checkpoint of a desk is to a script.
use Rattle.std.proofs.Common.{◌≡◌, ◌≢◌, ◌⊎◌, ◌+◌, ◌≤◌, ◌<◌, ◌^◌, ◌-◌, ℕ, inl, inr, List, [], ◌∷◌, ◌++◌, length, Result, Ok, Err, refl, sym, ap, ◌∙◌, subst}
use Rattle.std.specs.Prelude.{IsSome, IfOk, IfErr, OnOk, OnErr, IsOk, IsErrOf}
use Rattle.book.specs.Book.{BookView}
use Rattle.book.specs.Checkpoints.{Checkpoints, GoesDownRewriting, FindsNoRoomToRewrite, StandsAsOrForAll}
use Rattle.book.specs.declared.own.error.FlushError.{FlushError}
use Rattle.book.specs.declared.own.error.FlushError.TheVariants as errors
use Rattle.desk.specs.Desk as desks
use Rattle.desk.specs.Disks.{AreReadAs, Leaves}
use Rattle.desk.proofs.Checkpoints.{is_pair, read_rewritten, left_either}
use Rattle.desk.proofs.Reading.{open_gate, has_begun, held_records, configured_in}
use Rattle.desk.proofs.Standing.{left_by}
use Rattle.desk.proofs.Stores.{may_leave}
use Rattle.diskmodel.specs.Disk.{Device, AtEachMoment}
use Rattle.journal.specs.Areas.{Areas, other_side}
use Rattle.journal.specs.Journal.{disk_of, spare_of, IsAlive}
use Rattle.journal.specs.Pairs.{HaveKeptPlaces, areas_in, areas_of, generation_in, side_in, spare_disk, rewritten_disk, untouched_disk, store_of}
use Rattle.journal.specs.Snapshot.{bytes_for}
use Rattle.journal.specs.declared.journal.Journal.{Journal}
use Rattle.journal.specs.declared.layout.TheConstants.{MAX_JOURNAL_BYTES}
use Rattle.spec_model.specs.Nodes.{Node}
use Rattle.spec_model.specs.States.{State}
use Rattle.spec_world.specs.Text.{Desk, checkpoint, settled_in, state_in, after}
use Rattle.recovery.specs.Script.{run_of, IsOf, Breaks, for_checkpoint}
use Rattle.recovery.specs.declared.driving.DriveError.{DriveError}
use Rattle.recovery.specs.declared.driving.DriveError.TheVariants as ends
use Rattle.recovery.proofs.Desks.{left_durable, same_breaks, decoded_as}

after_checkpoint : (node : Node) (desk : Desk) → after node desk checkpoint ≡ record desk { settled = desk.accepted }
unfolding after
after_checkpoint node desk = refl

module _ {S D : Type 0} (node : Node) (device : Device D) (script : Desk) (before later : desks.DeskView S D) (is : IsOf node device script before.book before.journal) where
  -- after one that succeeded
  made_is : Checkpoints node device before.book later.book before.journal later.journal → IsAlive device later.journal → IsOf node device (after node script checkpoint) later.book later.journal
  made_is made alive =
      let places = made.swapped in
      let two = is_pair device later.journal (device.content (spare_disk later.journal)) places.pair in
      let begun = has_begun device later.journal alive (λ shut. open_gate (bytes_for (generation_in before.journal + 1) made.snapshot) (sym made.content ∙ shut)) in
      let read_as : AreReadAs node (areas_of device later.journal) (state_in node script) =
      read_rewritten node (run_of script) before.book is.stands_at (areas_of device later.journal) (other_side (side_in before.journal)) (generation_in before.journal + 1) made.snapshot
      is.stands_at.legal.node_is is.keys two made.settles.checkpoint made.records in
      subst (λ (d : Desk). IsOf node device d later.book later.journal) (sym (after_checkpoint node script)) (record {
        stands_at = made.settles.stands (run_of script) is.stands_at;
        waits = ap (λ (b : BookView S). b.queue) made.settles.is ∙ is.waits;
        up = ap (λ (b : BookView S). b.down) made.settles.is ∙ is.up;
        alive = alive;
        begun = begun;
        keys = is.keys;
        configured = configured_in device later.journal alive begun (held_records node (state_in node script) (areas_of device later.journal) two read_as);
        read_as = read_as;
      })

  pub checkpoint_is : (answer : Result ℕ FlushError) → IsOk answer → IfOk answer (λ generation. Checkpoints node device before.book later.book before.journal later.journal)
      → OnOk answer (IsAlive device later.journal) → IsOf node device (after node script checkpoint) later.book later.journal
  checkpoint_is (Ok generation) ok made alive = made_is made alive
  checkpoint_is (Err error) ok made alive = absurd cc

  -- after one whose disk failed
  device_breaks : (two : IsSome (spare_of before.journal)) → disk_of later.journal ≡ disk_of before.journal → HaveKeptPlaces before.journal later.journal
      → ((other : List ℕ) → device.outcome (spare_disk later.journal) other → StandsAsOrForAll node device before.book before.journal other)
      → Breaks node script checkpoint ends.Device (areas_in device (store_of later.journal)) (Leaves device (store_of later.journal))
  device_breaks two untouched places left = record {
    left = λ areas may.
        elim (left_either node device (run_of script) before.book before.journal later.journal is.stands_at is.stands_at.legal.node_is is.keys two is.alive is.read_as untouched places left areas
        (may_leave device later.journal (store_of later.journal) refl areas may)) [
          | inl so ↦ inl (decoded_as node device script before.book before.journal is (settled_in node script) areas so)
          | inr so ↦ inr (decoded_as node device script before.book before.journal is (settled_in node (after node script checkpoint)) areas
              (subst (λ (d : Desk). AreReadAs node areas (settled_in node d)) (sym (after_checkpoint node script)) so))
        ];
    errors = tt;
    full = λ so. absurd (cc);
  }

  -- after one for which there is no room
  full_breaks : later.journal ≡ before.journal → FindsNoRoomToRewrite node before.book later.book before.journal
      → Breaks node script checkpoint ends.Full (areas_in device (store_of later.journal)) (Leaves device (store_of later.journal))
  full_breaks same no_room = subst (λ (j : Journal D). Breaks node script checkpoint ends.Full (areas_in device (store_of j)) (Leaves device (store_of j))) (sym same) (record {
    left = λ areas left. inl (left_durable node device script before.book before.journal is areas left);
    errors = tt;
    full = λ _.
        let down = no_room.0 in
        let kept = down.checkpoint (run_of script) is.stands_at in
        for_checkpoint (generation_in before.journal) refl (record {
          checkpoint = kept.kept;
          written = kept.written;
          is = kept.is;
          full = subst (λ (rows : List (List ℕ)). (MAX_JOURNAL_BYTES < 1 + length (bytes_for (generation_in before.journal + 1) rows))
              ⊎ (generation_in before.journal ≡ 2 ^ 64 - 1)) kept.are no_room.1;
        });
  })

  at_end : (answer : Result ℕ FlushError) → IsErrOf answer errors.Device → untouched_disk answer later.journal ≡ disk_of before.journal → OnErr answer (HaveKeptPlaces before.journal later.journal)
      → AtEachMoment device (spare_disk before.journal) (rewritten_disk answer later.journal) (StandsAsOrForAll node device before.book before.journal)
      → ((disk : D) (t : ℕ) (c : List ℕ) → t ≤ device.clock disk → device.outcome disk c → device.outcome_since disk t c) → IsSome (spare_of before.journal)
      → Breaks node script checkpoint ends.Device (areas_in device (store_of later.journal)) (Leaves device (store_of later.journal))
  at_end (Ok generation) failed untouched kept moments counts two = absurd cc
  at_end (Err error) failed untouched kept moments counts two =
      device_breaks two untouched kept
      (λ other may. left_by device (spare_disk before.journal) (spare_disk later.journal) (StandsAsOrForAll node device before.book before.journal) other moments counts may)

  -- after one that failed
  pub checkpoint_breaks : (two : IsSome (spare_of before.journal)) (answer : Result ℕ FlushError) (error : DriveError) → (error ≡ ends.Memory) ⊎ ((error ≡ ends.Device) ⊎ (error ≡ ends.Full))
      → (error ≡ ends.Memory → IsErrOf answer errors.Memory) → (error ≡ ends.Device → IsErrOf answer errors.Device) → (error ≡ ends.Full → IsErrOf answer errors.Full)
      → IfErr answer (λ e. (e ≡ errors.Down) ⊎ (e ≡ errors.Memory) → later ≡ before)
      → (IsErrOf answer errors.Full → FindsNoRoomToRewrite node before.book later.book before.journal) → (IsErrOf answer errors.Full → later.journal ≡ before.journal)
      → untouched_disk answer later.journal ≡ disk_of before.journal → OnErr answer (HaveKeptPlaces before.journal later.journal)
      → AtEachMoment device (spare_disk before.journal) (rewritten_disk answer later.journal) (StandsAsOrForAll node device before.book before.journal)
      → ((disk : D) (t : ℕ) (c : List ℕ) → t ≤ device.clock disk → device.outcome disk c → device.outcome_since disk t c)
      → Breaks node script checkpoint error (areas_in device (store_of later.journal)) (Leaves device (store_of later.journal))
  checkpoint_breaks two answer error (inl so) memory failed full unchanged no_room same untouched kept moments counts =
      let kept_it = subst (λ (r : Result ℕ FlushError). IfErr r (λ e. (e ≡ errors.Down) ⊎ (e ≡ errors.Memory) → later ≡ before)) (memory so) unchanged (inr refl) in
      subst (λ (d : desks.DeskView S D). Breaks node script checkpoint error (areas_in device (store_of d.journal)) (Leaves device (store_of d.journal))) (sym kept_it)
      (same_breaks node device script before.book before.journal is checkpoint error so)
  checkpoint_breaks two answer error (inr (inl so)) memory failed full unchanged no_room same untouched kept moments counts =
      subst (λ (e : DriveError). Breaks node script checkpoint e (areas_in device (store_of later.journal)) (Leaves device (store_of later.journal))) (sym so)
      (at_end answer (failed so) untouched kept moments counts two)
  checkpoint_breaks two answer error (inr (inr so)) memory failed full unchanged no_room same untouched kept moments counts =
      subst (λ (e : DriveError). Breaks node script checkpoint e (areas_in device (store_of later.journal)) (Leaves device (store_of later.journal))) (sym so)
      (full_breaks (same (full so)) (no_room (full so)))
