-- What holds of all that a stop may leave after a call, and in the steps of an opening.
use Rattle.std.proofs.Common.{◌≡◌, inl, inr, List, ℕ, Ok, ap, ◌∙◌, subst}
use Rattle.diskmodel.specs.Disk.{ComesBy, NoneNew, LeavesOnly, GoesOn, AtEachMoment, Device}
use Rattle.diskmodel.proofs.Clock.{started, goes_on, joins}
use Rattle.journal.specs.Format.{stands}
use Rattle.journal.specs.Journal.{StandsAsOneOf}
use Rattle.journal.specs.declared.record.Record.{Record}

-- what comes by a change of the only content there was
pub from_only : (change : List ℕ → List ℕ → Type 0) (file : List ℕ) (old new : List ℕ → Type 0) (P : List ℕ → Type 0) → LeavesOnly file old
    → ComesBy change old new → ((c : List ℕ) → change file c → P c) → (c : List ℕ) → new c → P c
from_only change file old new P only comes here c left =
    let from = comes c left in
    here c (subst (λ (d : List ℕ). change d c) (only from.0 from.1) from.2)

module _ {D : Type 0} (device : Device D) where
  -- a first sync leaves nothing new
  pub until_synced : (old synced : D) → ((c : List ℕ) → device.outcome_since old (device.clock old) c → device.outcome old c)
      → GoesOn (device.clock old) (device.clock synced) (device.outcome_since old) (device.outcome_since synced) (device.outcome synced)
      → NoneNew (device.outcome old) (device.outcome synced) → AtEachMoment device old synced (StandsAsOneOf (device.outcome old))
  until_synced old synced only_now time outcomes =
      let P : List ℕ → Type 0 = StandsAsOneOf (device.outcome old) in
      goes_on device old old synced P (device.outcome synced) (started device old P (λ left now. inl (only_now left now))) time (λ left now. inl (outcomes left now))

  -- nor does reading the bytes after it
  pub until_read : (old synced read : D) → ((c : List ℕ) → device.outcome_since old (device.clock old) c → device.outcome old c)
      → GoesOn (device.clock old) (device.clock synced) (device.outcome_since old) (device.outcome_since synced) (device.outcome synced)
      → NoneNew (device.outcome old) (device.outcome synced) → AtEachMoment device synced read (device.outcome synced) → AtEachMoment device old read (StandsAsOneOf (device.outcome old))
  until_read old synced read only_now time outcomes reading =
      joins device old synced read (StandsAsOneOf (device.outcome old)) (device.outcome synced) (until_synced old synced only_now time outcomes) reading (λ left now. inl (outcomes left now))

  -- and then closing up an outcome that stands for records leaves these
  pub until_closed : (old read new : D) (file found : List ℕ) (records : List Record)
      → AtEachMoment device old read (StandsAsOneOf (device.outcome old)) → device.outcome old file → stands file ≡ Ok records
      → found ≡ file → AtEachMoment device read new (λ left. stands left ≡ stands found) → AtEachMoment device old new (StandsAsOneOf (device.outcome old))
  until_closed old read new file found records so_far possible stands_for same closing =
      joins device old read new (StandsAsOneOf (device.outcome old)) (λ left. stands left ≡ stands found) so_far closing
      (λ left kept. inr (file, possible, (records, stands_for, kept ∙ ap stands same ∙ stands_for)))
