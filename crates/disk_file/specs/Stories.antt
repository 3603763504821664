-- The record of a file: the bytes that it began with, and its calls.
use Rattle.std.specs.Prelude.{◌≡◌, ℕ, ◌+◌, List, [], ◌∷◌, ◌++◌, length}
use Rattle.diskmodel.specs.declared.call.Call.{Call}
use Rattle.diskmodel.specs.Outcomes.{State, AreBytes, state, IsOutcome, IsOutcomeSince}
use Rattle.diskmodel.specs.Disk.{GoesOn}
use Rattle.diskmodel.specs.Kept.{Keeps}
use Rattle.disk_file.specs.declared.story.TapeView.{TapeView}

-- the record of a file that begins with these bytes
abbrev pub begun : List ℕ → TapeView
begun bytes = record { first = bytes; calls = []; faults = 0 }

-- the record after the file was found, before any call, to have these further bytes at its end
abbrev pub with_more : List ℕ → TapeView → TapeView
with_more bytes story = record story { first = story.first ++ bytes }

-- before any call, the file was found to have `count` further bytes at its end
pub record GoesOnFor (count : ℕ) (old new : TapeView) : Type 0 where
  pub bytes : List ℕ
  pub is : new ≡ with_more bytes old
  pub are_bytes : AreBytes bytes
  pub long : length bytes ≡ count

-- the record after one more call has failed
abbrev pub failing : TapeView → TapeView
failing story = record story { faults = story.faults + 1 }

-- one more call was added to the record
pub record Adds (call : Call) (old new : TapeView) : Type 0 where
  pub first : new.first ≡ old.first
  pub calls : new.calls ≡ old.calls ++ call ∷ []
  pub faults : new.faults ≡ old.faults

-- the calls in the record, and the bytes at first, are unchanged
pub record SameCalls (old new : TapeView) : Type 0 where
  pub first : new.first ≡ old.first
  pub calls : new.calls ≡ old.calls

-- the state of the disk that the recorded calls lead to
abbrev pub reached : TapeView → State
reached story = state story.first story.calls

-- the bytes that a read gives after the recorded calls
abbrev pub held : TapeView → List ℕ
held story = (reached story).content

-- a stop after the recorded calls may leave these bytes
abbrev pub MayLeave : TapeView → List ℕ → Type 0
MayLeave story found = IsOutcome story.first story.calls found

-- between two states of the record the clock goes on; it counts the calls
abbrev pub TimePasses : TapeView → TapeView → Type 0
TimePasses old new = GoesOn (length old.calls) (length new.calls) (IsOutcomeSince old.first old.calls) (IsOutcomeSince new.first new.calls) (MayLeave new)

-- The recorded calls were made within the file, and what a read gives is a possible outcome of a stop
abbrev pub IsSound : TapeView → Type 0
IsSound story =
    let s : State = reached story in
    Keeps story.first story.calls s.durable s.smallest s.greatest s.spans s.content
