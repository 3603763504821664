-- How a script chooses what a stop will leave of a disk in memory.
use Rattle.std.specs.Prelude.{◌≡◌, ℕ, ◌<◌, List, length, slice_index, if◌then◌else◌}
use Rattle.diskmodel.specs.declared.memory.MemDisk.{MemDisk}
use Rattle.diskmodel.specs.Memory.{content_of, state_of, CanStopAt, choosing}
use Rattle.diskmodel.specs.Outcomes.{is_written}

-- between two states of a disk nothing changed, except that its next stop will leave these bytes, which are one of its possible outcomes
pub record WillLeave (before later : MemDisk) (found : List ℕ) : Type 0 where
  pub chosen : later ≡ choosing before found
  pub possible : CanStopAt before found

-- `found` is what a read of the disk gives, but with this byte at each place that was written since the last sync
pub record IsTornBy (byte : ℕ) (disk : MemDisk) (found : List ℕ) : Type 0 where
  pub len : length found ≡ length (content_of disk)
  pub torn : (place : ℕ) → place < length found → slice_index found place ≡ (if is_written (state_of disk).spans place then byte else slice_index (content_of disk) place)
