-- The entries of one round, the row, and of several rounds, the rows.
use Rattle.std.specs.Prelude.{◌≡◌, ℕ, zero, suc, ◌+◌, not, Bool, true, false, List, [], ◌∷◌, Option, option_map, option_and_then, slice_get, if◌then◌else◌}
use Rattle.std.specs.Option.{option_map_or}
use Rattle.spec_model.specs.Holdings.{genesis}
use Rattle.spec_model.specs.Slots.{same_digest, certificate_digest}
use Rattle.spec_model.specs.Words.{ParentReference}
use Rattle.committee.specs.Sets.{has}
use Rattle.dag.specs.Sets.{nobody}
use Rattle.committee.specs.declared.sets.MemberSet.{MemberSet}
use Rattle.dag.specs.declared.entry.Entry.{Entry}

-- ---- one round

-- the entry of an author's certificate in a row, if the row has one
abbrev pub slot_at : List (Option Entry) → ℕ → Option Entry
slot_at row author = option_and_then (λ slot. slot) (slice_get row author)

-- the row has a certificate of this author that isn't marked
abbrev pub is_unmarked : List (Option Entry) → ℕ → Bool
is_unmarked row author = option_map_or (λ entry. not entry.marked) (slot_at row author) false

-- the set that is kept with a row has exactly the authors whose certificates in it aren't marked
abbrev pub IsRow : List (Option Entry) → MemberSet → Type 0
IsRow row unmarked = (author : ℕ) → has unmarked author ≡ is_unmarked row author

-- the same entry with a mark
abbrev pub marked : Entry → Entry
marked entry = record entry { marked = true }

-- the part of a row from this author on, with the certificates of these authors marked
abbrev pub marked_from : ℕ → (ℕ → Bool) → List (Option Entry) → List (Option Entry)
marked_from author authors [] = []
marked_from author authors (slot ∷ row) = (if authors author then option_map marked slot else slot) ∷ marked_from (author + 1) authors row

abbrev pub marked_row : (ℕ → Bool) → List (Option Entry) → List (Option Entry)
marked_row authors row = marked_from 0 authors row

-- the rows, with the certificates of these authors in the row at this place marked
abbrev pub marked_rows : List (List (Option Entry)) → ℕ → (ℕ → Bool) → List (List (Option Entry))
marked_rows [] place authors = []
marked_rows (row ∷ rows) zero authors = marked_row authors row ∷ rows
marked_rows (row ∷ rows) (suc place) authors = row ∷ marked_rows rows place authors

-- ---- parents

-- the entry's certificate is the one that the parent reference names: it has the same digest
abbrev pub names : Option Entry → ParentReference → Bool
names slot parent = option_map_or (λ entry. same_digest entry.digest parent.certificate) slot false

-- ---- the genesis

-- the DAG's entry for the genesis certificate of this author
abbrev pub first : ℕ → Entry
first author = record { certificate = genesis author; digest = certificate_digest (genesis author).header; parents = nobody; marked = false }
