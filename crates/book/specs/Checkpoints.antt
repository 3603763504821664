-- What a book becomes when its journal is rewritten to a checkpoint.
use Rattle.std.specs.Prelude.{◌≡◌, ◌⊎◌, ℕ, ◌+◌, ◌-◌, ◌^◌, ◌<◌, true, None, Some, List, [], ◌∷◌, ◌++◌, length}
use Rattle.diskmodel.specs.Disk.{Device}
use Rattle.diskmodel.specs.Outcomes.{AreBytes}
use Rattle.spec_model.specs.Nodes.{Node}
use Rattle.journal.specs.Areas.{stands_in, other_side, rewrite_calls}
use Rattle.journal.specs.Journal.{disk_of}
use Rattle.journal.specs.Pairs.{HaveChangedPlaces, areas_of, areas_with, generation_in, side_in, spare_disk, stands_as}
use Rattle.journal.specs.Snapshot.{bytes_for, CanPack}
use Rattle.journal.specs.declared.journal.Journal.{Journal}
use Rattle.journal.specs.declared.layout.TheConstants.{MAX_JOURNAL_BYTES, OPEN}
use Rattle.book.specs.Book.{BookView, Run, Stands, IsCheckpointOfAll, with_all_taken, with_all_settled}

-- a journal can write a checkpoint with these records: each fits a group, and each byte of their groups is below 256, whatever the
-- generation
pub record CanBeWritten (snapshot : List (List ℕ)) : Type 0 where
  pub packs : CanPack snapshot
  pub are_bytes : (generation : ℕ) → AreBytes (bytes_for generation snapshot)

-- All accepted events are taken and settled by a checkpoint with these records. The later book stands at each run at which the earlier one
-- stood, with all accepted events taken and settled, and no rewriting is in flight.
pub record SettlesAll {S : Type 0} (node : Node) (before later : BookView S) (snapshot : List (List ℕ)) : Type 0 where
  pub checkpoint : IsCheckpointOfAll node before snapshot
  pub writable : CanBeWritten snapshot
  pub is : later ≡ record before { pending = []; taken = before.accepted; settled = before.accepted; ordered = later.ordered; reached = later.reached; rewriting = None }
  pub stands : (run : Run) → Stands node run before → Stands node (with_all_settled run) later

-- a checkpoint with these records would be longer than a journal may be, or the journal has the greatest generation, so that there is no
-- next one
abbrev pub HasNoRoomFor : {D : Type 0} → Journal D → List (List ℕ) → Type 0
HasNoRoomFor journal snapshot = (MAX_JOURNAL_BYTES < 1 + length (bytes_for (generation_in journal + 1) snapshot)) ⊎ (generation_in journal ≡ 2 ^ 64 - 1)

-- A book settled all that it had accepted by a checkpoint, for which the journal had room. The eight device calls of a rewriting wrote the
-- checkpoint to the spare disk, which is from then on the one that is read.
pub record Checkpoints {S D : Type 0} (node : Node) (device : Device D) (before later : BookView S) (old new : Journal D) : Type 0 where
  pub snapshot : List (List ℕ)
  pub settles : SettlesAll node before later snapshot
  pub room : HasNoRoomFor old snapshot → ⊥
  pub swapped : HaveChangedPlaces old new
  pub content : device.content (disk_of new) ≡ OPEN ∷ bytes_for (generation_in old + 1) snapshot
  pub records : stands_in (areas_of device new) ≡ stands_as (other_side (side_in old)) (generation_in old + 1) snapshot
  pub calls : device.calls (disk_of new) ≡ device.calls (spare_disk old) ++ rewrite_calls (bytes_for (generation_in old + 1) snapshot)

-- all accepted events are taken, the rewriting to a checkpoint of them stays in flight, and the book is down
pub record GoesDownRewriting {S : Type 0} (node : Node) (before later : BookView S) : Type 0 where
  pub snapshot : List (List ℕ)
  pub checkpoint : IsCheckpointOfAll node before snapshot
  pub writable : CanBeWritten snapshot
  pub is : later ≡ record before { pending = []; taken = before.accepted; rewriting = Some before.accepted; down = true }
  pub stands : (run : Run) → Stands node run before → Stands node (with_all_taken run) later

-- the book goes down while rewriting: because the journal had no room for the checkpoint, or although it had room, because a device call
-- failed
abbrev pub FindsNoRoomToRewrite : {S D : Type 0} → Node → BookView S → BookView S → Journal D → Type 0
FindsNoRoomToRewrite node before later journal = (down : GoesDownRewriting node before later) × HasNoRoomFor journal down.snapshot

abbrev pub FailsToRewrite : {S D : Type 0} → Node → BookView S → BookView S → Journal D → Type 0
FailsToRewrite node before later journal = (down : GoesDownRewriting node before later) × (HasNoRoomFor journal down.snapshot → ⊥)

-- What a stop leaves of the spare disk, together with the other disk, decodes to this journal's records, or to a checkpoint of all accepted
-- events.
abbrev pub StandsAsOrForAll : {S D : Type 0} → Node → Device D → BookView S → Journal D → List ℕ → Type 0
StandsAsOrForAll node device book journal left = (stands_in (areas_with device journal left) ≡ stands_in (areas_of device journal)) ⊎ IsRewritten
  where
    IsRewritten : Type 0
    IsRewritten =
        (snapshot : List (List ℕ)) × IsCheckpointOfAll node book snapshot
        × (stands_in (areas_with device journal left) ≡ stands_as (other_side (side_in journal)) (generation_in journal + 1) snapshot)
