-- The pending records, packed into groups.
use Rattle.std.specs.Prelude.{◌≡◌, ◌⊎◌, ℕ, ◌≤◌, List, [], ◌∷◌, ◌++◌, length, flat_map, ⊤}
use Rattle.journal.specs.declared.layout.TheConstants.{LENGTH_BYTES, MAX_GROUP_BYTES, MAX_GROUP_RECORDS}
use Rattle.journal.specs.Format.{FitsGroup, body_len, body_bytes}

-- these bytes are a draft of a group: room for the length of a body, and then the body of these `count` records, within the limits of a
-- group
pub record IsDraft (bytes : List ℕ) (count : ℕ) : Type 0 where
  pub records : List (List ℕ)
  pub not_many : length records ≤ MAX_GROUP_RECORDS
  pub not_long : body_len records ≤ MAX_GROUP_BYTES
  pub front : List ℕ
  pub room : length front ≡ LENGTH_BYTES
  pub written : bytes ≡ front ++ body_bytes records
  pub counts : count ≡ length records

-- the records are the group followed by the rest. The group fits the limits of a group, and with the next record it would not
pub record IsLongestBeginning (records group rest : List (List ℕ)) : Type 0 where
  pub parts : records ≡ group ++ rest
  pub fits : FitsGroup group
  pub longest : (next : List ℕ) (others : List (List ℕ)) → rest ≡ next ∷ others → FitsGroup (group ++ next ∷ []) → ⊥

-- the next group isn't empty, and this group has no room for the first record of it
abbrev pub IsFullBefore : List (List ℕ) → List (List ℕ) → Type 0
IsFullBefore group [] = ⊥
IsFullBefore group (first ∷ others) = FitsGroup (group ++ first ∷ []) → ⊥

-- groups are packed: each fits the limits of a group, and has no room for the first record of the next one
abbrev pub ArePacked : List (List (List ℕ)) → Type 0
ArePacked [] = ⊤
ArePacked (last ∷ []) = FitsGroup last
ArePacked (group ∷ next ∷ others) = FitsGroup group × IsFullBefore group next × ArePacked (next ∷ others)

-- the records of groups, one after the other
abbrev pub all_records : List (List (List ℕ)) → List (List ℕ)
all_records groups = flat_map (λ group. group) groups

-- a record of this length fits into the last of these groups
abbrev pub HasRoom : List (List (List ℕ)) → ℕ → Type 0
HasRoom groups len = (front : List (List (List ℕ))) × (last : List (List ℕ)) × (groups ≡ front ++ last ∷ [])
    × ((bytes : List ℕ) → length bytes ≡ len → FitsGroup (last ++ bytes ∷ []))

-- there is no group, or a record of this length doesn't fit into the last one
abbrev pub HasNoRoom : List (List (List ℕ)) → ℕ → Type 0
HasNoRoom groups len = (groups ≡ []) ⊎ IsFullLast
  where
    IsFullLast : Type 0
    IsFullLast = (front : List (List (List ℕ))) × (last : List (List ℕ)) × (groups ≡ front ++ last ∷ [])
        × ((bytes : List ℕ) → length bytes ≡ len → FitsGroup (last ++ bytes ∷ []) → ⊥)
