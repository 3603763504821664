-- What the calls of a disk do to its bytes, and which bytes a stop may leave.
use Rattle.std.specs.Prelude.{◌<◌, ◌≡◌, ◌≢◌, ◌⊎◌, ℕ, ◌+◌, ◌≤◌, max, min, List, [], ◌∷◌, ◌++◌, length, take, drop, Result, OnOk, OnErr, IfErr}
use Rattle.diskmodel.specs.declared.call.Call.{Call}
use Rattle.diskmodel.specs.declared.disk.DiskFault.{DiskFault}

-- the bytes `old` after `bytes` were written at the place `at`, which is within them or at their end
abbrev pub written : List ℕ → ℕ → List ℕ → List ℕ
written old at bytes = take at old ++ bytes ++ drop (at + length bytes) old

-- A stop inside a write of `count` bytes at the place `at` may leave `found` of the bytes `old`: there may be any bytes in the place of
-- those written; elsewhere they are the same; and the length is at most that after the whole write
pub record IsTorn (at count : ℕ) (old found : List ℕ) : Type 0 where
  pub before : take at found ≡ take at old
  pub after : drop (at + count) found ≡ drop (at + count) old
  pub no_shorter : length old ≤ length found
  pub no_longer : length found ≤ max (length old) (at + count)

-- A stop inside a cut to the length `len` may leave `found` of the bytes `old`: up to `len` they are the same, after it there may be any
-- bytes, and the length is between `len` and the old one
pub record IsCut (len : ℕ) (old found : List ℕ) : Type 0 where
  pub front : take len found ≡ take len old
  pub no_shorter : min len (length old) ≤ length found
  pub no_longer : length found ≤ length old

-- each outcome (the bytes that a stop would leave) that is possible after a call comes, by this change, from an outcome that was possible
-- before the call
abbrev pub ComesBy : (List ℕ → List ℕ → Type 0) → (List ℕ → Type 0) → (List ℕ → Type 0) → Type 0
ComesBy change old new = (c : List ℕ) → new c → (d : List ℕ) × old d × change d c

-- each outcome that is possible after a call was possible before it
abbrev pub NoneNew : (List ℕ → Type 0) → (List ℕ → Type 0) → Type 0
NoneNew old new = (c : List ℕ) → new c → old c

-- a stop leaves exactly these bytes
abbrev pub LeavesOnly : List ℕ → (List ℕ → Type 0) → Type 0
LeavesOnly bytes outcome = (c : List ℕ) → outcome c → c ≡ bytes

-- How the clock of a disk goes on over a call. Whatever a stop after some earlier moment may have left was possible before the call, or is
-- what a stop may leave now.
pub record GoesOn (before now : ℕ) (old new : ℕ → List ℕ → Type 0) (outcome : List ℕ → Type 0) : Type 0 where
  pub later : before ≤ now
  pub nothing_else : (t : ℕ) (c : List ℕ) → t ≤ before → new t c → old t c ⊎ outcome c
  pub keeps : (t : ℕ) (c : List ℕ) → t ≤ before → old t c → new t c

-- a call reports an error if and only if the disk has counted a failure during it
pub record HasCause {T : Type 0} (before now : ℕ) (result : Result T DiskFault) : Type 0 where
  pub later : before ≤ now
  pub failed : OnErr result (before < now)
  pub none : OnOk result (now ≡ before)

-- A call that can have several errors reports this one if and only if the disk has counted a failure during it.
abbrev pub ReportsFault : {T E : Type 0} → E → ℕ → ℕ → Result T E → Type 0
ReportsFault device before now result = OnOk result (now ≡ before) × IfErr result (λ error. (error ≡ device → before < now) × (error ≢ device → now ≡ before))

-- the disk has recorded this call after its earlier ones; if the call failed it may be recorded or not
pub record Makes {T : Type 0} (call : Call) (result : Result T DiskFault) (old new : List Call) : Type 0 where
  pub made : OnOk result (new ≡ old ++ call ∷ [])
  pub failed : OnErr result ((new ≡ old) ⊎ (new ≡ old ++ call ∷ []))

-- All that contracts need to know of the disks of a type, as one value. It has for each disk:
pub record Device (D : Type 0) : Type 1 where
  -- the bytes that a read gives
  pub content : D → List ℕ
  -- which bytes a stop may leave at this moment
  pub outcome : D → List ℕ → Type 0
  -- the current moment, as a number that never falls
  pub clock : D → ℕ
  -- which bytes a stop may have left at any moment from the given one on, inside a call or between two
  pub outcome_since : D → ℕ → List ℕ → Type 0
  -- how many calls of the disk have failed
  pub faults : D → ℕ
  -- the calls by which the disk was written, cut or synced, oldest first; a call that failed may be among them or not
  pub calls : D → List Call

-- between two states of a disk its clock goes on as `GoesOn` says
abbrev pub TimePasses : {D : Type 0} → Device D → D → D → Type 0
TimePasses device old new =
    GoesOn (device.clock old) (device.clock new) (device.outcome_since old) (device.outcome_since new) (device.outcome new)

-- whatever a stop at any moment between the two states may have left has the property P
pub record AtEachMoment {D : Type 0} (device : Device D) (old new : D) (P : List ℕ → Type 0) : Type 0 where
  pub later : device.clock old ≤ device.clock new
  pub each : (c : List ℕ) → device.outcome_since new (device.clock old) c → P c
  -- for a caller that began at an earlier moment t: whatever a stop since t may have left was possible before the call, or has the property
  -- P
  pub before : (t : ℕ) (c : List ℕ) → t ≤ device.clock old → device.outcome_since new t c → device.outcome_since old t c ⊎ P c

-- P holds of whatever a stop may have left of the first disk, together with whatever it may have left of the second, each at a moment of
-- its own.
abbrev pub AtEachMomentOfBoth : {D : Type 0} → Device D → D × D → D × D → (List ℕ → List ℕ → Type 0) → Type 0
AtEachMomentOfBoth device old new P =
    (a b : List ℕ) → device.outcome_since new.0 (device.clock old.0) a → device.outcome_since new.1 (device.clock old.1) b → P a b
