-- What a rewriting leaves of a journal on two disks.
use Rattle.std.proofs.Common.{◌≡◌, ◌⊎◌, inl, inr, ℕ, ◌+◌, ◌<◌, ◌^◌, List, [], ◌∷◌, Some, refl, sym, ap, ◌∙◌, subst, arith}
use Rattle.std.proofs.lemmas.List.{append-nil}
use Rattle.diskmodel.specs.Disk.{Device, LeavesOnly}
use Rattle.diskmodel.specs.declared.call.Call.{Call}
use Rattle.journal.specs.declared.side.Side.{Side}
use Rattle.journal.specs.declared.spare.Spare.{Spare}
use Rattle.journal.specs.Areas.{reports, pair_of, other_side, stands_at, stands_in, IsAtRest, IsOlderOrNew}
use Rattle.journal.specs.Journal.{MadeSome, IsAlivePair}
use Rattle.journal.specs.Pairs.{stands_as}
use Rattle.journal.specs.Snapshot.{bytes_for, CanPack, BeginsShaped}
use Rattle.journal.specs.Spares.{HasSwapped}
use Rattle.journal.proofs.Packing.{checkpoint_reports, checkpoint_at}
use Rattle.journal.proofs.Reporting.{at_rest_older, both_older, both_new}

-- none of the calls was made
pub made_none : (calls old new : List Call) → new ≡ old → MadeSome calls old new
made_none calls old new same = record { made = []; left = calls; are = refl; is = same ∙ sym (append-nil old) }

module _ (records : List (List ℕ)) (can : CanPack records) (shaped : BeginsShaped records) (generation : ℕ) (small : generation + 1 < 2 ^ 64) where
  reported_next : reports (1 ∷ bytes_for (generation + 1) records) ≡ Some (Some (generation + 1))
  reported_next = checkpoint_reports (generation + 1) records can shaped (omega arith) small

  -- beside what a moment of a rewriting leaves both areas stand for what they did, or for the checkpoint
  pub as_or_after : (side : Side) (live file left : List ℕ) → reports live ≡ Some (Some generation) → IsAtRest generation file
      → IsOlderOrNew generation (bytes_for (generation + 1) records) left
      → (stands_in (pair_of side live left) ≡ stands_in (pair_of side live file)) ⊎ (stands_in (pair_of side live left) ≡ stands_as (other_side side) (generation + 1) records)
  as_or_after side live file left reported at_rest (inl older) =
      inl (both_older side generation live left reported older ∙ sym (both_older side generation live file reported (at_rest_older generation file at_rest)))
  as_or_after side live file left reported at_rest (inr new) =
      inr (
      ap (λ (l : List ℕ). stands_in (pair_of side live l)) new.2
      ∙ both_new side generation (generation + 1) new.0 live (bytes_for (generation + 1) records) reported reported_next (omega arith) new.1
      ∙ checkpoint_at (other_side side) (generation + 1) records can
      )

module _ {D : Type 0} (device : Device D) (records : List (List ℕ)) (can : CanPack records) (shaped : BeginsShaped records)
    (spare later : Spare D) (live now : D) (small : spare.generation + 1 < 2 ^ 64) (reported : reports (device.content live) ≡ Some (Some spare.generation))
    (swapped : HasSwapped spare later live) (content : device.content now ≡ 1 ∷ bytes_for (spare.generation + 1) records) where
  reported_now : reports (device.content now) ≡ Some (Some (spare.generation + 1))
  reported_now = ap reports content ∙ reported_next records can shaped spare.generation small

  -- the area that was read is at rest
  rests : IsAtRest (spare.generation + 1) (device.content later.disk)
  rests = subst (λ (d : D). IsAtRest (spare.generation + 1) (device.content d)) (sym swapped.disk) (inr (spare.generation, reported, omega arith))

  -- the pair after a rewriting
  pub new_pair : LeavesOnly (device.content live) (device.outcome live) → IsAlivePair device now later
  new_pair durable = record {
    of_generation = inl (reported_now ∙ ap (λ (n : ℕ). Some (Some n)) (sym swapped.generation));
    at_rest = subst (λ (n : ℕ). IsAtRest n (device.content later.disk)) (sym swapped.generation) rests;
    durable = subst (λ (d : D). LeavesOnly (device.content d) (device.outcome d)) (sym swapped.disk) durable;
  }

  -- stands for the checkpoint
  pub new_stands : stands_in (pair_of later.side (device.content now) (device.content later.disk)) ≡ stands_as (other_side spare.side) (spare.generation + 1) records
  new_stands =
      both_older later.side (spare.generation + 1) (device.content now) (device.content later.disk) reported_now (at_rest_older (spare.generation + 1) (device.content later.disk) rests)
      ∙ (λ i. stands_at (swapped.side i) (content i))
      ∙ checkpoint_at (other_side spare.side) (spare.generation + 1) records can
