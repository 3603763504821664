-- What the bytes of a journal are read as. A journal has one area (the bytes of a disk), or two, of which one is read.
use Rattle.std.specs.Prelude.{◌≡◌, ◌≢◌, ◌⊎◌, ℕ, ◌+◌, ◌<◌, ◌==◌, not, nat_lt, List, [], ◌∷◌, ◌++◌, length, map, drop, slice_index, Option, Some, None}
use Rattle.std.specs.Prelude.{Result, Ok, Err, if◌then◌else◌}
use Rattle.std.specs.Int.{w64, from_be_bytes, to_be_bytes}
use Rattle.std.specs.Option.{option_map, option_and_then}
use Rattle.diskmodel.specs.declared.call.Call.{Call}
use Rattle.diskmodel.specs.declared.call.Call.TheVariants.{Wrote, Cut, Synced}
use Rattle.journal.specs.Configuration.{shaped_version}
use Rattle.journal.specs.Format.{body_at, group_of, stands}
use Rattle.journal.specs.declared.configuration.TheConstants.{HEAD, HEAD_BYTES}
use Rattle.journal.specs.declared.layout.TheConstants.{CLOSED, OPEN, SECOND_AREA}
use Rattle.journal.specs.declared.record.Record.{Record}
use Rattle.journal.specs.declared.side.Side.{Side}
use Rattle.journal.specs.declared.side.Side.TheVariants.{First, Second}

-- the bytes of a journal: of its one disk, or of its two disks
pub data Areas : Type 0 where
  alone : List ℕ → Areas
  pair : List ℕ → List ℕ → Areas

-- ---- the generation of an area

-- the record of a checkpoint's head: its kind, and then the generation, a number that says how new the area is
abbrev pub head_record : ℕ → List ℕ
head_record generation = HEAD ∷ to_be_bytes w64 generation

-- None for the number 0, and otherwise the number
abbrev pub unless_zero : ℕ → Option ℕ
unless_zero number = if number == 0 then None else Some number

-- the generation that the record of a head holds; None if the record is no head, or its generation is 0
unfoldable pub head_in : List ℕ → Option ℕ
head_in bytes =
    if not (length bytes == HEAD_BYTES) then None
    else if not (slice_index bytes 0 == HEAD) then None
    else unless_zero (from_be_bytes w64 (drop 1 bytes))

-- the generation of an area, by the records of its first group: 0 if the only record is a configuration; if a head follows the
-- configuration, the generation in it
unfoldable pub generation_of : List (List ℕ) → Option ℕ
generation_of [] = None
generation_of (configuration ∷ []) = option_map (λ version. 0) (shaped_version configuration)
generation_of (configuration ∷ head ∷ []) = option_and_then (λ version. head_in head) (shaped_version configuration)
generation_of (configuration ∷ head ∷ other ∷ others) = None

-- the generation of an area, by the bytes after its first gate
abbrev pub first_generation : List ℕ → Option ℕ
first_generation bytes = option_and_then (λ body. option_and_then generation_of (group_of body)) (body_at bytes)

-- what the first group of an area says of the area's generation: None if the first gate is closed or the area has at most one byte, Some
-- None if the group is damaged, and otherwise Some (Some generation)
unfoldable pub reports : List ℕ → Option (Option ℕ)
reports [] = None
reports (gate ∷ []) = None
reports (gate ∷ byte ∷ rest) = if gate == CLOSED then None else Some (first_generation (byte ∷ rest))

-- ---- which area is read

-- the number from which the places of an area are counted: 0 in the first area, 2^40 in the second
abbrev pub base_of : Side → ℕ
base_of First = 0
base_of Second = SECOND_AREA

-- the other one of the two areas
abbrev pub other_side : Side → Side
other_side First = Second
other_side Second = First

-- the bytes of both areas in their order, given those of the area on this side first
abbrev pub pair_of : Side → List ℕ → List ℕ → Areas
pair_of First live other = pair live other
pair_of Second live other = pair other live

-- Which area is read, by what the first groups of both say: of the areas whose first gate is open, the one of the greater generation; none
-- if both first gates are closed. It is an error if a first group is damaged, or if both areas have the same generation; the error has a
-- place.
unfoldable pub chosen : Option (Option ℕ) → Option (Option ℕ) → Result (Option Side) ℕ
chosen None None = Ok None
chosen (Some None) other = Err 0
chosen None (Some None) = Err SECOND_AREA
chosen (Some (Some one)) (Some None) = Err SECOND_AREA
chosen (Some (Some one)) None = Ok (Some First)
chosen None (Some (Some other)) = Ok (Some Second)
chosen (Some (Some one)) (Some (Some other)) =
    if one == other then Err SECOND_AREA else if nat_lt other one then Ok (Some First) else Ok (Some Second)

-- a record that was read from an area, with its place counted from `base`
abbrev pub moved_by : ℕ → Record → Record
moved_by base record_read = record record_read { gate = base + record_read.gate }

-- the result of reading an area, with all places in it counted from `base`
abbrev pub moved : ℕ → Result (List Record) ℕ → Result (List Record) ℕ
moved base (Ok records) = Ok (map (moved_by base) records)
moved base (Err gate) = Err (base + gate)

-- The records that are read from the bytes of the area on this side, or the error. Places are counted from the place where that side
-- begins.
abbrev pub stands_at : Side → List ℕ → Result (List Record) ℕ
stands_at First bytes = stands bytes
stands_at Second bytes = moved (base_of Second) (stands bytes)

-- what two areas are read as once it is chosen which one is read: its records, no records if none is, or the error of the choice
abbrev pub read_from : List ℕ → List ℕ → Result (Option Side) ℕ → Result (List Record) ℕ
read_from one other (Err place) = Err place
read_from one other (Ok None) = Ok []
read_from one other (Ok (Some First)) = stands_at First one
read_from one other (Ok (Some Second)) = stands_at Second other

-- what the bytes of a journal are read as: the records of the area that is read, or the place of the first damage
unfoldable pub stands_in : Areas → Result (List Record) ℕ
stands_in (alone bytes) = stands bytes
stands_in (pair one other) = read_from one other (chosen (reports one) (reports other))

-- ---- a rewriting

-- an area that may be the spare one: it is one byte long, or its first group is open and has a lower generation than the given one
abbrev pub IsAtRest : ℕ → List ℕ → Type 0
IsAtRest generation file = (length file ≡ 1) ⊎ ((lower : ℕ) × (reports file ≡ Some (Some lower)) × (lower < generation))

-- an area that is not read beside one of this generation: its first gate is closed, or its first group has a lower generation
abbrev pub IsOlder : ℕ → List ℕ → Type 0
IsOlder generation file = (reports file ≡ None) ⊎ ((lower : ℕ) × (reports file ≡ Some (Some lower)) × (lower < generation))

-- what a stop may leave of the area that is rewritten: an area that is not read, or an open gate and then all the new bytes
abbrev pub IsOlderOrNew : ℕ → List ℕ → List ℕ → Type 0
IsOlderOrNew generation bytes left = IsOlder generation left ⊎ ((gate : ℕ) × (gate ≢ CLOSED) × (left ≡ gate ∷ bytes))

-- the device calls that leave an area with one closed gate and nothing after it
abbrev pub clear_calls : List Call
clear_calls = Wrote 0 (CLOSED ∷ []) ∷ Synced ∷ Cut 1 ∷ Synced ∷ []

-- the device calls that write these bytes after an area's closed gate, and then open the gate
abbrev pub fill_calls : List ℕ → List Call
fill_calls bytes = Wrote 1 bytes ∷ Synced ∷ Wrote 0 (OPEN ∷ []) ∷ Synced ∷ []

-- the eight device calls that rewrite an area to an open gate and these bytes
abbrev pub rewrite_calls : List ℕ → List Call
rewrite_calls bytes = clear_calls ++ fill_calls bytes
