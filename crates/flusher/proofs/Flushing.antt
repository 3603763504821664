-- What a flush seat has taken, on a journal that is written to.
use Rattle.std.proofs.Common.{◌≡◌, ℕ, ◌+◌, List, ◌∙◌, subst}
use Rattle.std.specs.Prelude.{IsSome}
use Rattle.diskmodel.specs.Disk.{Device}
use Rattle.journal.specs.Areas.{Areas, other_side, stands_in}
use Rattle.journal.specs.Format.{stands}
use Rattle.journal.specs.Journal.{disk_of, spare_of, stands_with, IsAlive, IsBeforeOrAfter}
use Rattle.journal.specs.Pairs.{areas_of, areas_with, generation_in, side_in, spare_disk, stands_as, StandsAsOrAfter}
use Rattle.journal.specs.declared.journal.Journal.{Journal}
use Rattle.node_seats.specs.Views.{events}
use Rattle.node_shared.specs.Home.{NodeView, IsBase, IsCheckpointAfter, IsFlushOf, taken_by, group_of}
use Rattle.node_shared.specs.declared.flush_seat.FlushSeat.{FlushSeat}
use Rattle.sigface.specs.Scheme.{Scheme}
use Rattle.spec_machine.specs.After.{IsLegalAfter}
use Rattle.spec_model.specs.States.{State}
use Rattle.validator.specs.Setting.{node_of}
use Rattle.flusher.specs.Rounds.{areas_at, HoldsAfter, HoldsEither, KeepsEarlier}
use Rattle.flusher.proofs.Adding.{holds_after, holds_either, keeps_taken}
use Rattle.flusher.proofs.Checkpointed.{holds_rewritten, keeps_all}
use Rattle.flusher.proofs.Reading.{areas_then, pair_with}
use Rattle.flusher.proofs.Taking.{settled_begins, group_after, taken_legal}

module _ {S D : Type 0} (scheme : Scheme S) (device : Device D) (node : NodeView S) (flush : FlushSeat) (journal : Journal D) (of : IsFlushOf node flush)
    (held : HoldsAfter scheme node flush.seat.view.durable (areas_of device journal))
    (legal : (base : State) → IsBase scheme node base → IsLegalAfter (node_of scheme node.setting) base (events flush.seat.view.seen)) where
  abbrev pub Either : Areas → Type 0
  Either left = HoldsEither scheme node flush.seat.view.durable (taken_by flush) (areas_of device journal) left

  abbrev pub Keeps : Areas → Type 0
  Keeps left = KeepsEarlier scheme node flush.seat.view.durable (taken_by flush) (areas_of device journal) left

  legal_there : IsLegalAfter (node_of scheme node.setting) held.base (events (taken_by flush))
  legal_there = taken_legal node flush of (node_of scheme node.setting) held.base (legal held.base held.is_base)

  -- what keeps what there was has what was taken
  pub taken_there : (left : Areas) → Keeps left → HoldsAfter scheme node (taken_by flush) left
  taken_there left keeps = holds_after scheme node flush.seat.view.durable (taken_by flush) (areas_of device journal) (settled_begins node flush of) held legal_there left keeps

  -- a group that was added
  module _ (alive : IsAlive device journal) (group : List (List ℕ)) (is : group ≡ group_of flush) where
    pub either_with : (left : List ℕ) → IsBeforeOrAfter (device.content (disk_of journal)) group left → Either (areas_at device journal left)
    either_with left leaves =
        holds_either scheme device node flush.seat.view.durable (taken_by flush) journal (settled_begins node flush of) alive held legal_there left
        (subst (λ (g : List (List ℕ)). IsBeforeOrAfter (device.content (disk_of journal)) g left) (is ∙ group_after node flush of) leaves)

    pub keeps_with : (later : Journal D) → spare_of later ≡ spare_of journal
        → stands (device.content (disk_of later)) ≡ stands_with (device.content (disk_of journal)) group → Keeps (areas_of device later)
    keeps_with later same records =
        let left = device.content (disk_of later) in
        subst (λ (a : Areas). Keeps a) (areas_then device journal later same)
        (keeps_taken scheme device node flush.seat.view.durable (taken_by flush) journal (settled_begins node flush of) alive held legal_there left
        (subst (λ (g : List (List ℕ)). stands left ≡ stands_with (device.content (disk_of journal)) g) (is ∙ group_after node flush of) records))

  -- a checkpoint to which it was rewritten
  module _ (some : IsSome (spare_of journal)) (records : List (List ℕ)) (checkpoint : IsCheckpointAfter scheme node (taken_by flush) records) where
    pub either_rewritten : (left : List ℕ) → StandsAsOrAfter device journal records left → Either (areas_with device journal left)
    either_rewritten left leaves =
        holds_rewritten scheme device node flush.seat.view.durable (taken_by flush) journal (settled_begins node flush of) some held legal_there records checkpoint left leaves

    pub keeps_rewritten : (later : Journal D) → IsSome (spare_of later)
        → stands_in (areas_of device later) ≡ stands_as (other_side (side_in journal)) (generation_in journal + 1) records → Keeps (areas_of device later)
    keeps_rewritten later pair reads =
        keeps_all scheme node flush.seat.view.durable (taken_by flush) (areas_of device journal) (settled_begins node flush of) held legal_there records checkpoint (areas_of device later)
        (other_side (side_in journal)) (generation_in journal + 1) (pair_with device later (device.content (spare_disk later)) pair) reads
