-- What contracts see of a disk over a file.
use Rattle.std.specs.Prelude.{◌≡◌, ◌≤◌, Bool, true, false, List, ℕ, length, Result, IsErr, OnOk, OnErr}
use Rattle.std.specs.Option.{option_map_or}
use Rattle.diskmodel.specs.declared.disk.DiskFault.{DiskFault}
use Rattle.disk_file.specs.declared.story.TapeView.{TapeView}
use Rattle.disk_file.specs.declared.disk.FileDisk.{FileDisk}
use Rattle.disk_file.specs.Stories.{held, MayLeave}

-- the record of a disk: the bytes with which its file was opened, its calls since then, and how many calls have failed
abbrev pub story_of : FileDisk → TapeView
story_of disk = disk.tape

-- the bytes that a read of the disk gives
abbrev pub content_of : FileDisk → List ℕ
content_of disk = held disk.tape

-- a stop at this moment may leave these bytes of the disk
abbrev pub CanStopAt : FileDisk → List ℕ → Type 0
CanStopAt disk found = MayLeave disk.tape found

-- a call of the disk has failed, so that it takes no more calls
abbrev pub is_down : FileDisk → Bool
is_down disk = disk.is_down

-- how many of the first bytes can be read: those that were kept at the opening, until something is written or reading has ended
abbrev pub readable_in : FileDisk → ℕ
readable_in disk = option_map_or (λ bytes. length bytes.items) disk.mirror 0

-- all bytes of the disk can be read
abbrev pub IsReadable : FileDisk → Type 0
IsReadable disk = length (content_of disk) ≤ readable_in disk

-- Once a call of the disk has failed, all later ones fail. Nothing but a failed call has this effect.
pub record StaysDown {T : Type 0} (old new : FileDisk) (result : Result T DiskFault) : Type 0 where
  pub fails : is_down old ≡ true → IsErr result
  pub falls : OnErr result (is_down new ≡ true)
  pub stands : OnOk result (is_down new ≡ false)
