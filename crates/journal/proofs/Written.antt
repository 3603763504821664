-- Files as groups are written to them, one after the other.
use Rattle.std.proofs.Common.{◌≡◌, ◌≢◌, ℕ, ◌+◌, ◌-◌, ◌≤◌, List, [], ◌∷◌, ◌++◌, length, map, take, drop, Some, Result, Ok, refl, sym, ◌∙◌, ap, arith, append_assoc, length-append}
use Rattle.std.specs.List.{All}
use Rattle.std.proofs.lemmas.List.{append-nil, drop-drop, take_at, drop_at, map-append}
use Rattle.std.proofs.lemmas.Grind.{flat_map-append}
use Rattle.std.proofs.lemmas.List.Elements.{All-nil, All-cons, All-head, All-tail}
use Rattle.std.proofs.lemmas.Nat.{from_be_bytes-to_be_bytes_4}
use Rattle.journal.specs.declared.record.Record.{Record}
use Rattle.journal.specs.Format.{FitsGroup, body_len, body_bytes, sized_body, Gated, IsOpen, with_gate, in_turn, as_written, file_with, file_bytes}
use Rattle.journal.specs.Format.{length_field, body_at, kept, all_kept, with_front, walk, stands}
use Rattle.journal.proofs.Bytes.{length-body, not_empty, group_read}
use Rattle.journal.proofs.Walks.{with_front-append, with_front-nil, walk_closed, walk_group, body_from, stands_walk}

-- the records of groups with gates
abbrev pub their_records : List Gated → List (List (List ℕ))
their_records groups = map (λ group. group.records) groups

pub length-sized : (records : List (List ℕ)) → length (sized_body records) ≡ 4 + length (body_bytes records)
length-sized records = omega arith

-- a group that is written is read
pub body_here : (records : List (List ℕ)) (rest : List ℕ) → FitsGroup records → 1 ≤ length rest → body_at (sized_body records ++ rest) ≡ Some (body_bytes records)
body_here records rest fits some =
    let n = body_len records in
    let body = body_bytes records in
    let bytes = sized_body records ++ rest in
    let long : length body ≡ n = length-body records in
    let field : length_field bytes ≡ n = from_be_bytes-to_be_bytes_4 n (omega (arith, fits.not_long)) in
    let after : drop 4 bytes ≡ body ++ rest = refl in
    let size : length bytes ≡ 4 + (n + length rest) = omega (arith, length-append body rest) in
    body_from bytes n field (not_empty records fits) fits.not_long (omega arith) ∙ ap Some (take_at body rest n long)

-- and then what is after it
pub walk_one : (place gate : ℕ) (records : List (List ℕ)) (rest : List ℕ) → gate ≢ 0 → FitsGroup records → 1 ≤ length rest
    → walk place 0 (gate ∷ sized_body records ++ rest) ≡ with_front (kept place records) (walk (place + 1 + length (sized_body records)) 0 rest)
walk_one place gate records rest is_open fits some =
    let body = body_bytes records in
    let bytes = sized_body records ++ rest in
    let end_is : drop (4 + length body) bytes ≡ rest = sym (drop-drop (length body) 4 bytes) ∙ drop_at body rest (length body) refl in
    let next : place + (5 + length body) ≡ place + 1 + length (sized_body records) = omega (arith, length-sized records) in
    walk_group place gate bytes body records is_open (body_here records rest fits some) (group_read records fits)
    ∙ (λ i. with_front (kept place records) (walk (next i) 0 (end_is i)))

-- groups after open gates, and then what is after them
pub walk_in_turn : (place : ℕ) (groups : List Gated) (rest : List ℕ) → All IsOpen groups → 1 ≤ length rest
    → walk place 0 (in_turn groups ++ rest) ≡ with_front (all_kept place (their_records groups)) (walk (place + length (in_turn groups)) 0 rest)
walk_in_turn place [] rest all_open some =
    let same : place ≡ place + 0 = omega arith in
    ap (λ (p : ℕ). walk p 0 rest) same ∙ sym (with_front-nil (walk (place + 0) 0 rest))
walk_in_turn place (group ∷ groups) rest all_open some =
    let first = All-head IsOpen group groups all_open in
    let body = sized_body group.records in
    let others = in_turn groups ++ rest in
    let next = place + 1 + length body in
    let split : in_turn (group ∷ groups) ++ rest ≡ group.gate ∷ body ++ others = ap (λ (l : List ℕ). group.gate ∷ l) (append_assoc body (in_turn groups) rest) in
    let many : 1 ≤ length others = omega (arith, length-append (in_turn groups) rest) in
    let size : next + length (in_turn groups) ≡ place + length (in_turn (group ∷ groups)) = omega (arith, length-append body (in_turn groups)) in
    ap (λ (l : List ℕ). walk place 0 l) split
    ∙ walk_one place group.gate group.records others first.not_closed first.fits many
    ∙ ap (λ (r : Result (List Record × ℕ) ℕ). with_front (kept place group.records) r) (walk_in_turn next groups rest (All-tail IsOpen group groups all_open) some)
    ∙ sym (with_front-append (kept place group.records) (all_kept next (their_records groups)) (walk (next + length (in_turn groups)) 0 rest))
    ∙ ap (λ (p : ℕ). with_front (all_kept place (their_records (group ∷ groups))) (walk p 0 rest)) size

pub groups_stand : (groups : List Gated) (after : List ℕ) → All IsOpen groups → stands (in_turn groups ++ 0 ∷ after) ≡ Ok (all_kept 0 (their_records groups))
groups_stand groups after all_open =
    let records = all_kept 0 (their_records groups) in
    let gate = 0 + length (in_turn groups) in
    stands_walk (in_turn groups ++ 0 ∷ after) (records, gate)
    (walk_in_turn 0 groups (0 ∷ after) all_open (omega arith)
    ∙ ap (λ (r : Result (List Record × ℕ) ℕ). with_front records r) (walk_closed gate 0 after refl)
    ∙ ap (λ (l : List Record). Ok (l, gate)) (append-nil records))

pub records_written : (groups : List (List (List ℕ))) → their_records (map as_written groups) ≡ groups
records_written [] = refl
records_written (records ∷ groups) = ap (λ (others : List (List (List ℕ))). records ∷ others) (records_written groups)

pub open_written : (groups : List (List (List ℕ))) → All FitsGroup groups → All IsOpen (map as_written groups)
open_written [] fits = All-nil IsOpen
open_written (records ∷ groups) fits =
    All-cons IsOpen (as_written records) (map as_written groups) (record { not_closed = λ one. omega arith; fits = All-head FitsGroup records groups fits })
    (open_written groups (All-tail FitsGroup records groups fits))

pub written_stand : (groups : List (List (List ℕ))) (after : List ℕ) → All FitsGroup groups → stands (file_bytes groups ++ after) ≡ Ok (all_kept 0 groups)
written_stand groups after fits =
    ap stands (append_assoc (in_turn (map as_written groups)) (0 ∷ []) after)
    ∙ groups_stand (map as_written groups) after (open_written groups fits)
    ∙ ap (λ (found : List (List (List ℕ))). Ok (all_kept 0 found)) (records_written groups)

-- all but the last byte
all_but_last : (front : List ℕ) (last : ℕ) → take (length (front ++ last ∷ []) - 1) (front ++ last ∷ []) ≡ front
all_but_last front last =
    let size : length (front ++ last ∷ []) - 1 ≡ length front = omega (arith, length-append front (last ∷ [])) in
    ap (λ (n : ℕ). take n (front ++ last ∷ [])) size ∙ take_at front (last ∷ []) (length front) refl

pub one_more : (groups : List (List (List ℕ))) (group : List (List ℕ)) → file_with (file_bytes groups) group ≡ file_bytes (groups ++ group ∷ [])
one_more groups group =
    let before = in_turn (map as_written groups) in
    let last = in_turn (as_written group ∷ []) in
    let only : last ≡ with_gate (as_written group) = append-nil (with_gate (as_written group)) in
    let all : in_turn (map as_written (groups ++ group ∷ [])) ≡ before ++ last =
    ap in_turn (map-append as_written groups (group ∷ [])) ∙ flat_map-append with_gate (map as_written groups) (as_written group ∷ []) in
    let one : List ℕ = with_gate (as_written group) in
    let front : file_with (file_bytes groups) group ≡ before ++ (one ++ 0 ∷ []) = ap (λ (l : List ℕ). l ++ (one ++ 0 ∷ [])) (all_but_last before 0) in
    front ∙ sym (append_assoc before one (0 ∷ [])) ∙ ap (λ (l : List ℕ). before ++ l ++ 0 ∷ []) (sym only) ∙ ap (λ (l : List ℕ). l ++ 0 ∷ []) (sym all)
