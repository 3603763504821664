-- How an area on a side is read.
use Rattle.std.proofs.Common.{◌≡◌, inl, inr, ℕ, zero, suc, ◌+◌, ◌<◌, ◌≤◌, List, [], ◌∷◌, length, map, Option, Some, None, Result, Ok, Err, refl, sym, ◌∙◌, ap, arith}
use Rattle.std.specs.Option.{option_map, option_map_or, option_and_then}
use Rattle.journal.specs.declared.error.JournalError.{JournalError}
use Rattle.journal.specs.declared.error.JournalError.TheVariants as errors
use Rattle.std.proofs.lemmas.Bool.{cases_eq, cond-true, cond-false, lt-ltb, le-ltb}
use Rattle.std.proofs.lemmas.List.{map-append}
use Rattle.journal.specs.declared.record.Record.{Record}
use Rattle.journal.specs.declared.side.Side.{Side}
use Rattle.journal.specs.declared.side.Side.TheVariants.{First, Second}
use Rattle.journal.specs.Format.{kept, body_at, group_of, with_front, walk, scan, ScansTo, FailsAs}
use Rattle.journal.specs.Areas.{base_of, generation_of, moved, moved_by, stands_at}
use Rattle.journal.proofs.Walks.{Found, walk_open, walk_closed, stands_walk, stands_short}
use Rattle.journal.proofs.Packing.{kept_bytes, kept_moved}
use Rattle.journal.proofs.Stops.{scan_err}

-- what was found, with places counted from this one
abbrev pub moved_found : ℕ → Result Found ℕ → Result Found ℕ
moved_found base (Ok found) = Ok (map (moved_by base) found.0, base + found.1)
moved_found base (Err gate) = Err (base + gate)

-- what stands after an open gate, by its body
abbrev opened_by : ℕ → List ℕ → Option (List ℕ) → Result Found ℕ
opened_by place rest o =
    option_map_or (λ body. option_map_or (λ records. with_front (kept place records) (walk (place + 1) (4 + length body) rest)) (group_of body) (Err place)) o (Err place)

moved_front : (base : ℕ) (front : List Record) (r : Result Found ℕ) → moved_found base (with_front front r) ≡ with_front (map (moved_by base) front) (moved_found base r)
moved_front base front (Ok found) = ap (λ (l : List Record). Ok (l, base + found.1)) (map-append (moved_by base) front found.0)
moved_front base front (Err gate) = refl

module _ (base place : ℕ) (rest : List ℕ) (on : (passed : ℕ) → walk (base + (place + 1)) passed rest ≡ moved_found base (walk (place + 1) passed rest)) where
  next_place : base + place + 1 ≡ base + (place + 1)
  next_place = omega arith

  at_group : (body : List ℕ) (o : Option (List (List ℕ)))
      → option_map_or (λ records. with_front (kept (base + place) records) (walk (base + place + 1) (4 + length body) rest)) o (Err (base + place))
      ≡ moved_found base (option_map_or (λ records. with_front (kept place records) (walk (place + 1) (4 + length body) rest)) o (Err place))
  at_group body None = refl
  at_group body (Some records) =
      ap (λ (n : ℕ). with_front (kept (base + place) records) (walk n (4 + length body) rest)) next_place
      ∙ (λ i. with_front (sym (kept_moved base place records) i) (on (4 + length body) i))
      ∙ sym (moved_front base (kept place records) (walk (place + 1) (4 + length body) rest))

  at_body : (o : Option (List ℕ)) → opened_by (base + place) rest o ≡ moved_found base (opened_by place rest o)
  at_body None = refl
  at_body (Some body) = at_group body (group_of body)

-- to begin at a later place is to move what is found
pub walk_moved : (base place passed : ℕ) (bytes : List ℕ) → walk (base + place) passed bytes ≡ moved_found base (walk place passed bytes)
unfolding walk
walk_moved base place passed [] = refl
walk_moved base place (suc passed) (byte ∷ rest) =
    let same : base + place + 1 ≡ base + (place + 1) = omega arith in
    ap (λ (n : ℕ). walk n passed rest) same ∙ walk_moved base (place + 1) passed rest
walk_moved base place zero (gate ∷ rest) = elim (cases_eq gate 0) [
  | inl shut ↦ walk_closed (base + place) gate rest shut ∙ ap (moved_found base) (sym (walk_closed place gate rest shut))
  | inr is_open ↦
      walk_open (base + place) gate rest is_open
      ∙ at_body base place rest (λ n. walk_moved base (place + 1) n rest) (body_at rest)
      ∙ ap (moved_found base) (sym (walk_open place gate rest is_open))
]

-- what was found where places are moved
pub record Scanned (side : Side) (bytes : List ℕ) (records : List Record) (gate : ℕ) : Type 0 where
  pub stand : stands_at side bytes ≡ Ok records
  pub scans : ScansTo bytes gate

found_by : (base : ℕ) (r : Result Found ℕ) (records : List Record) (gate : ℕ) → moved_found base r ≡ Ok (records, base + gate)
    → (first : List Record) × (r ≡ Ok (first, gate)) × (map (moved_by base) first ≡ records)
found_by base (Err place) records gate is = absurd (cc)
found_by base (Ok found) records gate is =
    let same : ◌≡◌ {A = Found} (map (moved_by base) found.0, base + found.1) (records, base + gate) = cc in
    let end_is : found.1 ≡ gate = omega (arith, ap (λ (f : Found). f.1) same) in
    (found.0, (λ i. Ok (found.0, end_is i)), ap (λ (f : Found). f.0) same)

failed_by : (base : ℕ) (r : Result Found ℕ) (place : ℕ) → moved_found base r ≡ Err place → (gate : ℕ) × (r ≡ Err gate) × (base + gate ≡ place)
failed_by base (Err gate) place is = (gate, refl, (cc))
failed_by base (Ok found) place is = absurd (cc)

pub scans_long : (bytes : List ℕ) → 2 ≤ length bytes → scan bytes ≡ walk 0 0 bytes
unfolding scan
scans_long bytes long = cond-false _ _ _ (le-ltb (length bytes) 2 long)

pub scanned : (side : Side) (bytes : List ℕ) (records : List Record) (gate : ℕ) → 2 ≤ length bytes → walk (base_of side) 0 bytes ≡ Ok (records, base_of side + gate) → Scanned side bytes records gate
scanned First bytes records gate long walked =
    let same : 0 + gate ≡ gate = omega arith in
    let is : walk 0 0 bytes ≡ Ok (records, gate) = walked ∙ ap (λ (n : ℕ). Ok (records, n)) same in
    record { stand = stands_walk bytes (records, gate) is; scans = (records, scans_long bytes long ∙ is) }
scanned Second bytes records gate long walked =
    let found = found_by 1099511627776 (walk 0 0 bytes) records gate (sym (walk_moved 1099511627776 0 0 bytes) ∙ walked) in
    record {
      stand = ap (moved 1099511627776) (stands_walk bytes (found.0, gate) found.1) ∙ ap Ok found.2;
      scans = (found.0, scans_long bytes long ∙ found.1);
    }

pub scan_failed : (side : Side) (bytes : List ℕ) (place : ℕ) → 2 ≤ length bytes → walk (base_of side) 0 bytes ≡ Err place → stands_at side bytes ≡ Err place
scan_failed First bytes place long walked = scan_err bytes place (scans_long bytes long ∙ walked)
scan_failed Second bytes place long walked =
    let found = failed_by 1099511627776 (walk 0 0 bytes) place (sym (walk_moved 1099511627776 0 0 bytes) ∙ walked) in
    ap (moved 1099511627776) (scan_err bytes found.0 (scans_long bytes long ∙ found.1)) ∙ ap Err found.2

-- an area of at most one byte stands for nothing
pub short_stands : (side : Side) (bytes : List ℕ) → length bytes < 2 → stands_at side bytes ≡ Ok []
short_stands First bytes short = stands_short bytes short
short_stands Second bytes short = ap (moved 1099511627776) (stands_short bytes short)

pub short_scans : (bytes : List ℕ) → length bytes < 2 → scan bytes ≡ Ok ([], 0)
unfolding scan
short_scans bytes short = cond-true _ _ _ (lt-ltb (length bytes) 2 short)

-- an error says of one reading what it says of the other
pub fails_as : {X Y : Type 0} (error : JournalError) (one : Result X ℕ) (other : Result Y ℕ) → ((place : ℕ) → one ≡ Err place → other ≡ Err place) → FailsAs error one → FailsAs error other
fails_as errors.Memory one other same fails = tt
fails_as (errors.Damaged place) one other same fails = same place fails
fails_as errors.Device one other same fails = absurd fails
fails_as errors.ConfigMismatch one other same fails = absurd fails
fails_as errors.Full one other same fails = absurd fails

-- the generation of what was read as the records of a first group
pub generation_read : (body : List ℕ) (o : Option (List (List ℕ))) (records : List Record) → Some records ≡ option_map (kept 0) o
    → generation_of (map (λ one. one.bytes) records) ≡ option_and_then generation_of o
generation_read body None records is = absurd (cc)
generation_read body (Some group) records is =
    let same : records ≡ kept 0 group = cc in
    ap (λ (l : List Record). generation_of (map (λ one. one.bytes) l)) same ∙ ap generation_of (kept_bytes 0 group)
