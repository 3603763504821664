-- What contracts see of a disk in memory.
use Rattle.std.specs.Prelude.{◌≡◌, ℕ, List, length, not, Option, Some, Result, IsErr, OnErr}
use Rattle.std.specs.List.{Contains, filter}
use Rattle.diskmodel.specs.Disk.{GoesOn}
use Rattle.diskmodel.specs.declared.disk.DiskFault.{DiskFault}
use Rattle.diskmodel.specs.declared.call.Call.{Call}
use Rattle.diskmodel.specs.declared.call.CallKind.{CallKind}
use Rattle.diskmodel.specs.declared.memory.MemDisk.{MemDisk}
use Rattle.diskmodel.specs.declared.switch.SwitchView.{SwitchView}
use Rattle.diskmodel.specs.Countdowns.{Counts, counts_of, counts_for, counting}
use Rattle.diskmodel.specs.Outcomes.{State, state, IsOutcome, IsOutcomeSince}
use Rattle.diskmodel.specs.Kept.{is_stop}
use Rattle.diskmodel.specs.Recorded.{IsAsBefore}

-- the bytes with which a disk in memory began
abbrev pub first_of : MemDisk → List ℕ
first_of disk = disk.history.first.items

-- the calls of a disk in memory so far, oldest first; stops are among them
abbrev pub calls_of : MemDisk → List Call
calls_of disk = disk.history.calls.items

-- these calls without the stops of the machine
abbrev pub made_in : List Call → List Call
made_in calls = filter (λ call. not (is_stop (Some call))) calls

-- the calls of a disk in memory so far, without the stops
abbrev pub made_of : MemDisk → List Call
made_of disk = made_in (calls_of disk)

-- the state that a disk's calls lead to from the bytes with which it began
abbrev pub state_of : MemDisk → State
state_of disk = state (first_of disk) (calls_of disk)

-- the bytes that a read of the disk gives
abbrev pub content_of : MemDisk → List ℕ
content_of disk = disk.history.content.items

-- a stop at this moment may leave these bytes of the disk
abbrev pub CanStopAt : MemDisk → List ℕ → Type 0
CanStopAt disk found = IsOutcome (first_of disk) (calls_of disk) found

-- the bytes that were chosen for the next stop, if any were. The stop leaves them if they are a possible outcome then
abbrev pub choice_of : MemDisk → Option (List ℕ)
choice_of disk = disk.choice

-- for each kind of call, which of the disk's next calls will fail
abbrev pub told_of : MemDisk → Counts
told_of disk = counts_of disk.countdowns

-- the disk's switch (another thread makes calls fail by it), if the disk was made with one
abbrev pub switch_of : MemDisk → Option SwitchView
switch_of disk = disk.switch

-- the same disk after these bytes were chosen for its next stop
abbrev pub choosing : MemDisk → List ℕ → MemDisk
choosing disk outcome = record disk { choice = Some outcome }

-- a call has left the disk's record of calls, its bytes, its switch and the choice for its next stop as they were
pub record IsUndisturbed (old new : MemDisk) : Type 0 where
  pub history : new.history ≡ old.history
  pub choice : new.choice ≡ old.choice
  pub switch : new.switch ≡ old.switch

-- between two states of a disk in memory its clock goes on as `GoesOn` says
abbrev pub TimeGoesOn : MemDisk → MemDisk → Type 0
TimeGoesOn old new =
    GoesOn (length (calls_of old)) (length (calls_of new)) (IsOutcomeSince (first_of old) (calls_of old)) (IsOutcomeSince (first_of new) (calls_of new)) (CanStopAt new)

-- The disk counts a call of this kind, and the call fails if a test has set it to. A call that fails so has no effect.
pub record Heeds {T : Type 0} (call : CallKind) (old new : MemDisk) (result : Result T DiskFault) : Type 0 where
  pub told : Contains (counts_for (told_of old) call) 1 → IsErr result
  pub counted : told_of new ≡ counting (told_of old) call
  pub no_effect : OnErr result (IsAsBefore old.history new.history)
  pub choice : choice_of new ≡ choice_of old
  pub switch : switch_of new ≡ switch_of old
