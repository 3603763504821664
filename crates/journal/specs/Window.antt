-- A window on a file: the part of the file that is in memory while its groups are read.
use Rattle.std.specs.Prelude.{◌≡◌, ℕ, ◌+◌, ◌-◌, ◌^◌, ◌<◌, ◌≤◌, min, List, length, drop, take, Result}
use Rattle.diskmodel.specs.Disk.{AtEachMoment, Device, NoneNew}
use Rattle.journal.specs.Format.{body_at, walk}
use Rattle.journal.specs.declared.layout.TheConstants.{WINDOW_BYTES}
use Rattle.journal.specs.declared.record.Record.{Record}
use Rattle.journal.specs.declared.window.Window.{Window}

-- the bytes of a window that weren't read yet are those of the file from its next gate on
pub record IsWindow (file : List ℕ) (window : Window) : Type 0 where
  pub len : window.len ≡ length file
  pub inside : window.gate < length file
  pub fits : length file < 2 ^ 63
  pub within : window.read ≤ length window.bytes.items
  pub same : drop window.read window.bytes.items ≡ take (length window.bytes.items - window.read) (drop window.gate file)
  pub room : min (length file - window.gate) WINDOW_BYTES ≤ length window.bytes.items

-- a window has the next gate of the file and the whole group after it
pub record HasNext (file : List ℕ) (window : Window) : Type 0 where
  pub some : window.read < length window.bytes.items
  pub body : body_at (drop (window.read + 1) window.bytes.items) ≡ body_at (drop (window.gate + 1) file)

-- reading a file on from this gate: the records of the groups with their places counted from `base`, and the place where the reading ends
abbrev pub left_from : ℕ → ℕ → List ℕ → Result (List Record × ℕ) ℕ
left_from base gate file = walk (base + gate) 0 (drop gate file)

-- a disk was only read and synced: its bytes and what a stop may leave of it are as before
pub record IsOnlyRead {D : Type 0} (device : Device D) (old new : D) : Type 0 where
  pub content : device.content new ≡ device.content old
  pub outcomes : NoneNew (device.outcome old) (device.outcome new)
  pub any_moment : AtEachMoment device old new (device.outcome old)
