-- What a stop may leave of two disks at any moment of their opening, and what that decodes to.
use Rattle.std.specs.Prelude.{◌≡◌, List, [], ◌∷◌, ℕ}
use Rattle.diskmodel.specs.Disk.{Device, AtEachMoment}
use Rattle.journal.specs.Areas.{pair}
use Rattle.journal.specs.declared.store.Store.{Store}
use Rattle.journal.specs.declared.store.Store.TheVariants.{One, Two}
use Rattle.spec_model.specs.Nodes.{Node}
use Rattle.opening.specs.Decoded.{decoded_in, IsDecodedAsOneOf}

-- One stage of an opening of two disks: P holds of whatever a stop at a moment of the stage may leave of the first disk, together with
-- whatever a stop may leave of the second one, each at a moment of its own.
pub record IsStage {D : Type 0} (device : Device D) (P : List ℕ → List ℕ → Type 0) (old new : D × D) : Type 0 where
  pub first : AtEachMoment device old.0 new.0 (λ one. (other : List ℕ) → device.outcome_since new.1 (device.clock old.1) other → P one other)
  pub second : AtEachMoment device old.1 new.1 (λ other. (one : List ℕ) → device.outcome_since new.0 (device.clock old.0) one → P one other)

-- An opening of two disks that goes through several stages, with these states of both disks between them; both are always in the same
-- stage.
abbrev pub AreStages : {D : Type 0} → Device D → (List ℕ → List ℕ → Type 0) → D × D → List (D × D) → D × D → Type 0
AreStages device P old [] new = IsStage device P old new
AreStages device P old (mid ∷ more) new = IsStage device P old mid × AreStages device P mid more new

abbrev pub InStages : {D : Type 0} → Device D → (List ℕ → List ℕ → Type 0) → D × D → D × D → Type 0
InStages {D} device P old new = (states : List (D × D)) × AreStages device P old states new

-- what a stop leaves of two disks decodes to the same as some outcomes of both disks do
abbrev pub IsDecodedAsBoth : {D : Type 0} → Node → Device D → D × D → List ℕ → List ℕ → Type 0
IsDecodedAsBoth node device disks one other =
    (first : List ℕ) × (second : List ℕ) × device.outcome disks.0 first × device.outcome disks.1 second × (decoded_in node (pair one other) ≡ decoded_in node (pair first second))

-- Whatever a stop at any moment of an opening leaves decodes to the same as some outcome from before it. An opening of two disks has
-- stages: a rewriting begins only after both disks were synced.
abbrev pub IsDecodedThroughout : {D : Type 0} → Node → Device D → Store D → Store D → Type 0
IsDecodedThroughout node device (One old) (One new) = AtEachMoment device old new (IsDecodedAsOneOf node (device.outcome old))
IsDecodedThroughout node device (Two first second) (Two now also) = InStages device (IsDecodedAsBoth node device (first, second)) (first, second) (now, also)
IsDecodedThroughout node device old new = ⊥
