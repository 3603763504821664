-- How an opening chooses the area that is read, and what it leaves of both areas of a journal.
use Rattle.std.specs.Prelude.{◌≡◌, ◌⊎◌, ℕ, ◌<◌, List, length, Option, Some, None, is_none, Bool}
use Rattle.diskmodel.specs.Disk.{LeavesOnly, Device}
use Rattle.journal.specs.Format.{stands}
use Rattle.journal.specs.declared.spare.Spare.{Spare}
use Rattle.journal.specs.declared.side.Side.{Side}
use Rattle.journal.specs.declared.side.Side.TheVariants.{First, Second}
use Rattle.journal.specs.Areas.{reports, other_side, pair_of, stands_in, IsOlder}
use Rattle.journal.specs.Journal.{EndsClosed, IsClosedUp, IsAlivePair}

-- on_side: of two values, the first for the first area and the second for the second one, the value for this side. off_side: the other
-- value
abbrev pub on_side : {X : Type 0} → Side → X → X → X
on_side First one other = one
on_side Second one other = other

abbrev pub off_side : {X : Type 0} → Side → X → X → X
off_side side one other = on_side (other_side side) one other

-- the first gate of an area is closed, or the area is empty
abbrev pub is_shut : List ℕ → Bool
is_shut file = is_none (reports file)

-- by what its first group says, an area has a lower generation than this one, or its first gate is closed
abbrev pub IsLower : ℕ → Option (Option ℕ) → Type 0
IsLower generation reported = (reported ≡ None) ⊎ ((lower : ℕ) × (reported ≡ Some (Some lower)) × (lower < generation))

-- given what the first groups of both areas say, this side is read; if both first gates are closed that is the first area, with generation
-- 0
abbrev pub IsChoice : Side → ℕ → Option (Option ℕ) → Option (Option ℕ) → Type 0
IsChoice side generation one other =
    ((on_side side one other ≡ Some (Some generation)) × IsLower generation (off_side side one other))
    ⊎ ((one ≡ None) × (other ≡ None) × (side ≡ First) × (generation ≡ 0))

-- given the bytes of both areas, those of this side first, this side is read. If no area has a group yet, that is the first area, with
-- generation 0.
abbrev pub IsChosen : Side → ℕ → List ℕ → List ℕ → Type 0
IsChosen side generation live other =
    ((reports live ≡ Some (Some generation)) × IsOlder generation other)
    ⊎ ((reports live ≡ None) × (reports other ≡ None) × (side ≡ First) × (generation ≡ 0))

-- What an opening leaves of the spare area: one closed gate if its first gate was closed, and otherwise the same bytes.
pub record IsRested (file now : List ℕ) : Type 0 where
  pub reported : reports now ≡ reports file
  pub stand : stands now ≡ stands file
  pub short : reports file ≡ None → length now ≡ 1
  pub shut : reports file ≡ None → IsClosedUp file now
  pub kept : (reported : Option ℕ) → reports file ≡ Some reported → now ≡ file

-- what a journal holds of its spare disk: the disk itself, and with it the side and the generation of the other area, the one that is read
abbrev pub spare_with : {D : Type 0} → D → Side → ℕ → Spare D
spare_with disk side generation = record { disk = disk; side = side; generation = generation }

-- Both areas were opened: the one that is read ends with the closed gate at which reading ends, and the spare one is at rest.
pub record AreOpened {D : Type 0} (device : Device D) (side : Side) (generation : ℕ) (live other now also : D) : Type 0 where
  pub ends_closed : EndsClosed (device.content now)
  pub durable : LeavesOnly (device.content now) (device.outcome now)
  pub pair : IsAlivePair device now (spare_with also side generation)
  pub same : stands_in (pair_of side (device.content now) (device.content also)) ≡ stands_in (pair_of side (device.content live) (device.content other))
  pub closed : IsClosedUp (device.content live) (device.content now)
  pub rested : IsRested (device.content other) (device.content also)
