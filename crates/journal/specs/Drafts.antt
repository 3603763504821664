-- A checkpoint while it is being built.
use Rattle.std.specs.Prelude.{◌≡◌, ◌⊎◌, ℕ, ◌≤◌, List, [], ◌∷◌, ◌++◌, length, map}
use Rattle.std.specs.Borrow.{Bor}
use Rattle.std.specs.List.{flat_map}
use Rattle.journal.specs.Areas.{head_record}
use Rattle.journal.specs.Format.{sized_body, in_turn, as_written}
use Rattle.journal.specs.Snapshot.{packed, bytes_for, CanPack, BeginsShaped, head_place}
use Rattle.journal.specs.declared.layout.TheConstants.{OPEN, MAX_GROUP_RECORDS}

-- the bytes of a checkpoint before the length field of its next group: the first group, these groups, and an open gate
abbrev pub before_group : List ℕ → List (List (List ℕ)) → List ℕ
before_group configuration groups = sized_body (configuration ∷ head_record 0 ∷ []) ++ (in_turn (map as_written groups) ++ OPEN ∷ [])

-- The last group of a checkpoint's state has `count` records, and its length field stands at the place `start`.
pub record EndsIn (configuration : List ℕ) (state : List (List ℕ)) (start count : ℕ) : Type 0 where
  pub front : List (List (List ℕ))
  pub last : List (List ℕ)
  pub groups : packed state ≡ front ++ last ∷ []
  pub counts : count ≡ length last
  pub at : start ≡ length (before_group configuration front)

-- a draft has no record of the state yet: the last group counts as full, so that the next record begins a group
pub record IsBare (state : List (List ℕ)) (start count : ℕ) : Type 0 where
  pub none : state ≡ []
  pub at : start ≡ 0
  pub full : count ≡ MAX_GROUP_RECORDS

-- where the last group of a draft begins, and how many records it has; the draft has these records so far
abbrev pub IsLast : List (List ℕ) → ℕ → ℕ → Type 0
IsLast [] start count = ⊥
IsLast (configuration ∷ state) start count = IsBare state start count ⊎ EndsIn configuration state start count

-- `bytes` are those of a checkpoint of generation 0, after its first gate; its last group is at `start` and has `count` records.
pub record IsDraft (bytes : List ℕ) (start count : ℕ) : Type 0 where
  pub records : List (List ℕ)
  pub written : bytes ≡ bytes_for 0 records
  pub packable : CanPack records
  pub last : IsLast records start count

-- The bytes of a draft are kept with the place of the generation in them, and with the number of the draft's records without the head.
pub record IsDraftOf (bytes : List ℕ) (place records_count start count : ℕ) : Type 0 where
  pub draft : IsDraft bytes start count
  pub shaped : BeginsShaped draft.records
  pub at : place ≡ head_place draft.records
  pub counts : records_count ≡ length draft.records
  pub few : records_count ≤ length bytes

-- the bytes of a record that is given in parts
abbrev pub whole : List (Bor (List ℕ)) → List ℕ
whole parts = flat_map (λ part. part.now) parts
