-- The records of a checkpoint, the groups into which they are packed, and the bytes of these groups.
use Rattle.std.specs.Prelude.{◌≡◌, ⊤, ℕ, ◌+◌, ◌&&◌, nat_lt, nat_le, Bool, List, [], ◌∷◌, ◌++◌, length, map, IsSome, Result, Ok, Err, if◌then◌else◌}
use Rattle.std.specs.List.{All}
use Rattle.journal.specs.Areas.{head_record}
use Rattle.journal.specs.Configuration.{shaped_version}
use Rattle.journal.specs.Format.{FitsGroup, body_len, sized_body, file_bytes, stands}
use Rattle.journal.specs.declared.layout.TheConstants.{OPEN, LENGTH_BYTES, MAX_GROUP_BYTES, MAX_GROUP_RECORDS}
use Rattle.journal.specs.declared.record.Record.{Record}

-- ---- groups

-- one more record may join a group with these records
abbrev pub has_room : List (List ℕ) → List ℕ → Bool
has_room group next = nat_lt (length group) MAX_GROUP_RECORDS && nat_le (body_len group + (LENGTH_BYTES + length next)) MAX_GROUP_BYTES

-- packs records into groups: a record begins a new group only if the last one has no room for it. The first group starts with the given
-- records
unfoldable pub packed_after : List (List ℕ) → List (List ℕ) → List (List (List ℕ))
packed_after group [] = group ∷ []
packed_after group (next ∷ rest) =
    if has_room group next then packed_after (group ++ next ∷ []) rest else group ∷ packed_after (next ∷ []) rest

-- packs records into groups: a record begins a new group only if the last one has no room for it
unfoldable pub packed : List (List ℕ) → List (List (List ℕ))
packed [] = []
packed (first ∷ rest) = packed_after (first ∷ []) rest

-- the groups of a checkpoint of this generation: first the configuration with a head (the generation's record), then the records of the
-- state
abbrev pub checkpoint_groups : ℕ → List (List ℕ) → List (List (List ℕ))
checkpoint_groups generation [] = []
checkpoint_groups generation (configuration ∷ state) = (configuration ∷ head_record generation ∷ []) ∷ packed state

-- the bytes of a checkpoint of these records with this generation, after its first gate
abbrev pub bytes_for : ℕ → List (List ℕ) → List ℕ
bytes_for generation [] = []
bytes_for generation (configuration ∷ state) = sized_body (configuration ∷ head_record generation ∷ []) ++ file_bytes (packed state)

-- ---- records

-- a record is short enough for a group
abbrev pub FitsAlone : List ℕ → Type 0
FitsAlone bytes = FitsGroup (bytes ∷ [])

-- records that can be a checkpoint: the first fits a group together with a head, and each other one fits a group
abbrev pub CanPack : List (List ℕ) → Type 0
CanPack [] = ⊥
CanPack (configuration ∷ state) = FitsGroup (configuration ∷ head_record 0 ∷ []) × All FitsAlone state

-- the first record, if there is one, has the form of a configuration
abbrev pub BeginsShaped : List (List ℕ) → Type 0
BeginsShaped [] = ⊤
BeginsShaped (configuration ∷ state) = IsSome (shaped_version configuration)

-- these records without the second one, which is the head of a checkpoint
abbrev pub without_head : List (List ℕ) → List (List ℕ)
without_head [] = []
without_head (configuration ∷ []) = configuration ∷ []
without_head (configuration ∷ head ∷ state) = configuration ∷ state

-- the bytes of the records of a reading, without the head; no records if the reading failed
abbrev pub read_without_head : Result (List Record) ℕ → List (List ℕ)
read_without_head (Ok records) = without_head (map (λ one. one.bytes) records)
read_without_head (Err gate) = []

-- the records of a checkpoint, given its bytes after its first gate
unfoldable pub records_in : List ℕ → List (List ℕ)
records_in bytes = read_without_head (stands (OPEN ∷ bytes))

-- the place of the generation in the bytes of a checkpoint of these records
abbrev pub head_place : List (List ℕ) → ℕ
head_place [] = 0
head_place (configuration ∷ state) = 13 + length configuration

-- `bytes` are those of a checkpoint of some generation, after its first gate. It has `count` records without the head, and its generation
-- stands at `place`.
pub record IsSnapshot (bytes : List ℕ) (place count : ℕ) : Type 0 where
  pub generation : ℕ
  pub written : bytes ≡ bytes_for generation (records_in bytes)
  pub packable : CanPack (records_in bytes)
  pub shaped : BeginsShaped (records_in bytes)
  pub at : place ≡ head_place (records_in bytes)
  pub counts : count ≡ length (records_in bytes)
