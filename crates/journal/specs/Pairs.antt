-- The disks, the areas and the generation of a journal on two disks, and what a rewriting makes of them.
use Rattle.std.specs.Prelude.{◌≡◌, ◌⊎◌, ℕ, ◌+◌, List, Result, Ok, Err, IsSome}
use Rattle.std.specs.Option.{option_map_or}
use Rattle.diskmodel.specs.Disk.{Device}
use Rattle.journal.specs.declared.journal.Journal.{Journal}
use Rattle.journal.specs.declared.record.Record.{Record}
use Rattle.journal.specs.declared.side.Side.{Side}
use Rattle.journal.specs.declared.side.Side.TheVariants.{First}
use Rattle.journal.specs.declared.store.Store.{Store}
use Rattle.journal.specs.declared.store.Store.TheVariants as store
use Rattle.journal.specs.Spares.{by_area}
use Rattle.journal.specs.Areas.{Areas, alone, pair, pair_of, other_side, base_of, stands_in}
use Rattle.journal.specs.Format.{all_kept}
use Rattle.journal.specs.Journal.{disk_of, spare_of}
use Rattle.journal.specs.Snapshot.{checkpoint_groups}

-- the spare disk of a journal on two disks; of a journal on one disk that disk itself
abbrev pub spare_disk : {D : Type 0} → Journal D → D
spare_disk journal = option_map_or (λ spare. spare.disk) (spare_of journal) (disk_of journal)

-- the side of the area that is read
abbrev pub side_in : {D : Type 0} → Journal D → Side
side_in journal = option_map_or (λ spare. spare.side) (spare_of journal) First

-- the generation of the area that is read, which counts the rewritings; 0 for a journal on one disk
abbrev pub generation_in : {D : Type 0} → Journal D → ℕ
generation_in journal = option_map_or (λ spare. spare.generation) (spare_of journal) 0

-- the bytes of a journal if its spare area had these bytes instead of its own
abbrev pub areas_with : {D : Type 0} → Device D → Journal D → List ℕ → Areas
areas_with device journal left =
    option_map_or (λ spare. pair_of spare.side (device.content (disk_of journal)) left) (spare_of journal) (alone (device.content (disk_of journal)))

-- the bytes of a journal: of its one area, or of both in their order
abbrev pub areas_of : {D : Type 0} → Device D → Journal D → Areas
areas_of device journal = areas_with device journal (device.content (spare_disk journal))

-- two disks, in the order of their areas, as a store that can be opened
abbrev pub two : {D : Type 0} → D × D → Store D
two disks = store.Two disks.0 disks.1

-- the disks of a journal as a store, in the order of their areas, as they were opened
abbrev pub store_of : {D : Type 0} → Journal D → Store D
store_of journal = option_map_or (λ spare. two (by_area spare.side (disk_of journal) spare.disk)) (spare_of journal) (store.One (disk_of journal))

-- the bytes on the disks of a store
abbrev pub areas_in : {D : Type 0} → Device D → Store D → Areas
areas_in device (store.One disk) = alone (device.content disk)
areas_in device (store.Two first second) = pair (device.content first) (device.content second)

-- ---- a rewriting: a checkpoint is written into the spare area

-- what the area on this side is read as once it was rewritten to a checkpoint of these records with this generation
abbrev pub stands_as : Side → ℕ → List (List ℕ) → Result (List Record) ℕ
stands_as side generation records = Ok (all_kept (base_of side) (checkpoint_groups generation records))

-- With these bytes left in the spare area, both areas are read as the earlier records, or as the new checkpoint of these records.
abbrev pub StandsAsOrAfter : {D : Type 0} → Device D → Journal D → List (List ℕ) → List ℕ → Type 0
StandsAsOrAfter device journal records left =
    (stands_in (areas_with device journal left) ≡ stands_in (areas_of device journal))
    ⊎ (stands_in (areas_with device journal left) ≡ stands_as (other_side (side_in journal)) (generation_in journal + 1) records)

-- the disk that a rewriting writes: after success the disk that is read, after an error still the spare one
abbrev pub rewritten_disk : {D T E : Type 0} → Result T E → Journal D → D
rewritten_disk (Ok given) journal = disk_of journal
rewritten_disk (Err error) journal = spare_disk journal

-- the disk that a rewriting does not write: after success the spare one, after an error still the one that is read
abbrev pub untouched_disk : {D T E : Type 0} → Result T E → Journal D → D
untouched_disk (Ok given) journal = spare_disk journal
untouched_disk (Err error) journal = disk_of journal

-- the two disks of a journal have changed places, and the one that is read now has the next generation
pub record HaveChangedPlaces {D : Type 0} (old new : Journal D) : Type 0 where
  pub pair : IsSome (spare_of new)
  pub spare : spare_disk new ≡ disk_of old
  pub side : side_in new ≡ other_side (side_in old)
  pub generation : generation_in new ≡ generation_in old + 1

-- the two disks of a journal have kept their places, and the journal its generation
pub record HaveKeptPlaces {D : Type 0} (old new : Journal D) : Type 0 where
  pub pair : IsSome (spare_of new)
  pub side : side_in new ≡ side_in old
  pub generation : generation_in new ≡ generation_in old
