-- The format of a journal: how groups of records are written, and what any bytes are read as.
use Rattle.std.specs.Prelude.{◌≡◌, ◌≢◌, ℕ, zero, suc, ◌+◌, ◌-◌, ◌≤◌, List, [], ◌∷◌, ◌++◌, length, take, drop, map, sum_by, Option, Some, None}
use Rattle.std.specs.Prelude.{Result, Ok, Err, nat_lt, nat_le, ◌==◌, if◌then◌else◌, Vec}
use Rattle.std.specs.List.{All, flat_map}
use Rattle.std.specs.Option.{option_map, option_and_then, option_map_or}
use Rattle.std.specs.Int.{w32, to_be_bytes, from_be_bytes}
use Rattle.std.specs.declared.alloc.Global.{Global}
use Rattle.journal.specs.declared.layout.TheConstants.{CLOSED, OPEN, LENGTH_BYTES, MAX_GROUP_BYTES, MAX_GROUP_RECORDS}
use Rattle.journal.specs.declared.record.Record.{Record}
use Rattle.journal.specs.declared.error.JournalError.{JournalError}
use Rattle.journal.specs.declared.error.JournalError.TheVariants as errors

-- the bytes of each of these records, as lists of numbers
abbrev pub contents : List (Vec ℕ Global) → List (List ℕ)
contents records = map (λ record_bytes. record_bytes.items) records

-- the length in bytes of a group's body: its records, each after its length field
abbrev pub body_len : List (List ℕ) → ℕ
body_len records = sum_by (λ bytes. LENGTH_BYTES + length bytes) records

-- these records may be a group: there is at least one, and not too many records or bytes
pub record FitsGroup (records : List (List ℕ)) : Type 0 where
  pub some : 1 ≤ length records
  pub not_many : length records ≤ MAX_GROUP_RECORDS
  pub not_long : body_len records ≤ MAX_GROUP_BYTES

-- a record as it stands in a group: its length field, and its bytes
abbrev pub record_bytes : List ℕ → List ℕ
record_bytes bytes = to_be_bytes w32 (length bytes) ++ bytes

-- the body of a group: its records, each after its length field
abbrev pub body_bytes : List (List ℕ) → List ℕ
body_bytes records = flat_map record_bytes records

-- the length field of a group, and its body
abbrev pub sized_body : List (List ℕ) → List ℕ
sized_body records = to_be_bytes w32 (body_len records) ++ body_bytes records

-- the bytes that an append writes after a group's gate: the length field, the body, and the closed gate for the next group
abbrev pub group_bytes : List (List ℕ) → List ℕ
group_bytes records = sized_body records ++ CLOSED ∷ []

-- a file after one more group was appended: the closed gate at its end is opened, and the group follows
abbrev pub file_with : List ℕ → List (List ℕ) → List ℕ
file_with file records = take (length file - 1) file ++ OPEN ∷ group_bytes records

-- a group as it stands in a file: its records, and the value of the gate before it
pub record Gated : Type 0 where
  pub gate : ℕ
  pub records : List (List ℕ)

-- the gate of a group is open, and its records are within the limits of a group
pub record IsOpen (group : Gated) : Type 0 where
  pub not_closed : group.gate ≢ CLOSED
  pub fits : FitsGroup group.records

-- the bytes of a group with the gate before it
abbrev pub with_gate : Gated → List ℕ
with_gate group = group.gate ∷ sized_body group.records

-- the bytes of these groups, each with its gate, one after the other
abbrev pub in_turn : List Gated → List ℕ
in_turn groups = flat_map with_gate groups

-- a group as an append leaves it in the file: after a gate with the value OPEN
abbrev pub as_written : List (List ℕ) → Gated
as_written records = record { gate = OPEN; records = records }

-- the bytes of a file that consists of these groups, each after an open gate, and of a closed gate at the end
abbrev pub file_bytes : List (List (List ℕ)) → List ℕ
file_bytes groups = in_turn (map as_written groups) ++ CLOSED ∷ []

-- the number in the length field with which these bytes start
abbrev pub length_field : List ℕ → ℕ
length_field bytes = from_be_bytes w32 (take LENGTH_BYTES bytes)

-- the first record of a body and the bytes after it; None if the body ends within that record
unfoldable pub split_record : List ℕ → Option (List ℕ × List ℕ)
split_record bytes =
    if nat_lt (length bytes) LENGTH_BYTES then None else
    if nat_lt (length (drop LENGTH_BYTES bytes)) (length_field bytes) then None else
    Some (take (length_field bytes) (drop LENGTH_BYTES bytes), drop (length_field bytes) (drop LENGTH_BYTES bytes))

-- the records that make up these bytes after the first `passed` bytes; None if the last record is not whole
unfoldable pub records_after : ℕ → List ℕ → Option (List (List ℕ))
records_after passed [] = Some []
records_after (suc passed) (byte ∷ rest) = records_after passed rest
records_after zero (byte ∷ rest) = option_and_then (λ parts. option_map (λ others. parts.0 ∷ others) (records_after (LENGTH_BYTES - 1 + length parts.0) rest)) (split_record (byte ∷ rest))

-- the records that make up a body; None if the last record is not whole
abbrev pub records_of : List ℕ → Option (List (List ℕ))
records_of body = records_after 0 body

-- the records of a group's body; None if the last record is not whole, or there are too many records
unfoldable pub group_of : List ℕ → Option (List (List ℕ))
group_of body = option_and_then (λ records. if nat_lt MAX_GROUP_RECORDS (length records) then None else Some records) (records_of body)

-- the body after an open gate, given the bytes after that gate; None unless its length is within the limits, and the bytes have all of it
-- and the next gate
unfoldable pub body_at : List ℕ → Option (List ℕ)
body_at bytes =
    if nat_lt (length bytes) LENGTH_BYTES then None else
    if length_field bytes == 0 then None else
    if nat_lt MAX_GROUP_BYTES (length_field bytes) then None else
    if nat_le (length bytes - LENGTH_BYTES) (length_field bytes) then None else
    Some (take (length_field bytes) (drop LENGTH_BYTES bytes))

-- a record as it is read: its bytes, and the place of its group's gate
abbrev pub kept_at : ℕ → List ℕ → Record
kept_at gate bytes = record { bytes = bytes; gate = gate }

-- these records as they are read from the group whose gate is at this place
abbrev pub kept : ℕ → List (List ℕ) → List Record
kept gate records = map (kept_at gate) records

-- the records of these groups as they are read; the gate of the first group is at this place
abbrev pub all_kept : ℕ → List (List (List ℕ)) → List Record
all_kept gate [] = []
all_kept gate (records ∷ groups) = kept gate records ++ all_kept (gate + 1 + length (sized_body records)) groups

-- these records first, and then the records of a reading that went on after them; the error, if it failed
abbrev pub with_front : List Record → Result (List Record × ℕ) ℕ → Result (List Record × ℕ) ℕ
with_front front (Ok found) = Ok (front ++ found.0, found.1)
with_front front (Err gate) = Err gate

-- Reads bytes that stand at this place of a file and start with a gate, after `passed` bytes that are skipped: the records of the groups
-- after open gates, and the place of the closed gate at which the reading ends; or the place of an open gate after which there is no whole
-- group.
unfoldable pub walk : ℕ → ℕ → List ℕ → Result (List Record × ℕ) ℕ
walk place passed [] = Ok ([], place)
walk place (suc passed) (byte ∷ rest) = walk (place + 1) passed rest
walk place zero (gate ∷ rest) =
    if gate == CLOSED then Ok ([], place) else
    option_map_or (λ body. option_map_or (λ records. with_front (kept place records) (walk (place + 1) (LENGTH_BYTES + length body) rest)) (group_of body) (Err place)) (body_at rest) (Err place)

-- reads a whole file: its records and the place of the closed gate at which reading ends, or the place of damage. One byte or none has no
-- group
unfoldable pub scan : List ℕ → Result (List Record × ℕ) ℕ
scan file = if nat_lt (length file) 2 then Ok ([], 0) else walk 0 0 file

-- the records of a reading, without the place at which it ended
abbrev pub only_records : Result (List Record × ℕ) ℕ → Result (List Record) ℕ
only_records (Ok found) = Ok found.0
only_records (Err gate) = Err gate

-- What the bytes of a file are read as: the records of the groups after open gates, from the front on, or the place of an open gate after
-- which there is no whole group.
unfoldable pub stands : List ℕ → Result (List Record) ℕ
stands file = only_records (scan file)

-- bytes consist of groups after open gates, then a closed gate, and then anything; `records` are the records of those groups
pub record AreGroups (bytes : List ℕ) (records : List Record) : Type 0 where
  pub groups : List Gated
  pub after : List ℕ
  pub all_open : All IsOpen groups
  pub written : bytes ≡ in_turn groups ++ CLOSED ∷ after
  pub found : records ≡ all_kept 0 (map (λ group. group.records) groups)

-- bytes begin with a whole group without its gate; at least one more byte follows, the next gate
pub record HasGroup (bytes : List ℕ) : Type 0 where
  pub records : List (List ℕ)
  pub next : ℕ
  pub rest : List ℕ
  pub fits : FitsGroup records
  pub written : bytes ≡ sized_body records ++ next ∷ rest

-- bytes, at least two, begin with groups after open gates; at this place another open gate follows, after which there is no whole group
pub record IsDamagedAt (bytes : List ℕ) (place : ℕ) : Type 0 where
  pub long : 2 ≤ length bytes
  pub groups : List Gated
  pub gate : ℕ
  pub after : List ℕ
  pub all_open : All IsOpen groups
  pub written : bytes ≡ in_turn groups ++ gate ∷ after
  pub here : place ≡ length (in_turn groups)
  pub not_closed : gate ≢ CLOSED
  pub no_group : ¬ HasGroup after

-- The error of a reading says why it failed: an allocation failed, or the bytes are damaged at the gate that it names.
abbrev pub FailsAs : {X : Type 0} → JournalError → Result X ℕ → Type 0
FailsAs errors.Memory read = Unit {0}
FailsAs (errors.Damaged gate) read = read ≡ Err gate
FailsAs error read = ⊥

-- these bytes are what an append writes of a group after its gate; the group has `count` records
pub record IsGroup (bytes : List ℕ) (count : ℕ) : Type 0 where
  pub records : List (List ℕ)
  pub fits : FitsGroup records
  pub written : bytes ≡ group_bytes records
  pub counts : count ≡ length records

-- reading the file ends at the closed gate at this place
abbrev pub ScansTo : List ℕ → ℕ → Type 0
ScansTo file gate = (records : List Record) × (scan file ≡ Ok (records, gate))
