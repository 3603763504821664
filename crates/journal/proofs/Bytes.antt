-- How records and groups are read back from their bytes.
use Rattle.std.proofs.Common.{inl, inr, ◌≡◌, ◌≢◌, ℕ, zero, suc, ◌+◌, ◌<◌, ◌≤◌, ◌^◌, Bool, true, false, cond, List, [], ◌∷◌, ◌++◌, length, take, drop, Option}
use Rattle.std.proofs.Common.{Some, None, refl, sym, ◌∙◌, ap, arith, length-append, length-drop, ltb}
use Rattle.std.specs.Option.{option_map, option_and_then}
use Rattle.std.proofs.lemmas.List.{drop-drop, take_all, take_at, drop_at, length-take-le}
use Rattle.std.proofs.lemmas.List.Sums.{sum_by-cons}
use Rattle.std.proofs.lemmas.Nat.{from_be_bytes-to_be_bytes_4}
use Rattle.std.proofs.lemmas.Bool.{cases_lt, ltb-false, le-ltb, cond-false}
use Rattle.std.proofs.lemmas.Option.{same_Some, none-some}
use Rattle.journal.specs.Format.{FitsGroup, body_len, record_bytes, body_bytes, group_bytes, length_field, split_record, records_after, records_of, group_of}

-- a test that led to a value led past its `None`
pub passed_test : {A : Type 0} (b : Bool) (y : Option A) (z : A) → cond b None y ≡ Some z → (b ≡ false) × (y ≡ Some z)
passed_test true y z is = absurd (none-some z is)
passed_test false y z is = (refl, is)

-- what a record is read from
pub record Splits (bytes front after : List ℕ) : Type 0 where
  pub header : 4 ≤ length bytes
  pub whole : 4 + length_field bytes ≤ length bytes
  pub is_front : front ≡ take (length_field bytes) (drop 4 bytes)
  pub is_after : after ≡ drop (4 + length front) bytes
  pub long : length front ≡ length_field bytes

pub splits : (bytes : List ℕ) (parts : List ℕ × List ℕ) → split_record bytes ≡ Some parts → Splits bytes parts.0 parts.1
unfolding split_record
splits bytes parts is =
    let first = passed_test _ _ _ is in
    let second = passed_test _ _ _ first.1 in
    let same = same_Some _ _ second.1 in
    let header : 4 ≤ length bytes = ltb-false (length bytes) 4 first.0 in
    let fits : length_field bytes ≤ length (drop 4 bytes) = ltb-false (length (drop 4 bytes)) (length_field bytes) second.0 in
    let whole : 4 + length_field bytes ≤ length bytes = omega (arith, length-drop 4 bytes) in
    let is_front : parts.0 ≡ take (length_field bytes) (drop 4 bytes) = sym (ap (λ (p : List ℕ × List ℕ). p.0) same) in
    let long : length parts.0 ≡ length_field bytes = ap length is_front ∙ length-take-le (length_field bytes) (drop 4 bytes) fits in
    let is_after : parts.1 ≡ drop (4 + length parts.0) bytes =
    sym (ap (λ (p : List ℕ × List ℕ). p.1) same) ∙ drop-drop (length_field bytes) 4 bytes ∙ ap (λ (n : ℕ). drop (4 + n) bytes) (sym long) in
    record { header = header; whole = whole; is_front = is_front; is_after = is_after; long = long }

-- passing over bytes is reading what is after them
pub records_after-skip : (passed : ℕ) (bytes : List ℕ) → records_after passed bytes ≡ records_after 0 (drop passed bytes)
unfolding records_after
records_after-skip zero [] = refl
records_after-skip (suc k) [] = refl
records_after-skip zero (b ∷ rest) = refl
records_after-skip (suc k) (b ∷ rest) = records_after-skip k rest

pub records_nil : records_of [] ≡ Some []
unfolding records_after
records_nil = refl

pub records_none : (bytes : List ℕ) → bytes ≢ [] → split_record bytes ≡ None → records_of bytes ≡ None
unfolding records_after
records_none [] some none = absurd (some refl)
records_none (b ∷ rest) some none = ap (λ (o : Option (List ℕ × List ℕ)). option_and_then (λ parts. option_map (λ others. parts.0 ∷ others) (records_after (3 + length parts.0) rest)) o) none

pub records_some : (bytes : List ℕ) (parts : List ℕ × List ℕ) → split_record bytes ≡ Some parts → records_of bytes ≡ option_map (λ others. parts.0 ∷ others) (records_of parts.1)
unfolding records_after
records_some [] parts is = absurd (omega (arith, (splits [] parts is).header))
records_some (b ∷ rest) parts is =
    let same : 4 + length parts.0 ≡ suc (3 + length parts.0) = omega arith in
    let after : parts.1 ≡ drop (3 + length parts.0) rest = (splits (b ∷ rest) parts is).is_after ∙ ap (λ (n : ℕ). drop n (b ∷ rest)) same in
    ap (λ (o : Option (List ℕ × List ℕ)). option_and_then (λ parts. option_map (λ others. parts.0 ∷ others) (records_after (3 + length parts.0) rest)) o) is
    ∙ ap (λ (o : Option (List (List ℕ))). option_map (λ others. parts.0 ∷ others) o) (records_after-skip (3 + length parts.0) rest ∙ ap records_of (sym after))

-- a record that is written is read back
pub split_written : (bytes rest : List ℕ) → length bytes < 2 ^ 32 → split_record (record_bytes bytes ++ rest) ≡ Some (bytes, rest)
unfolding split_record
split_written bytes rest small =
    let field : length_field (record_bytes bytes ++ rest) ≡ length bytes = from_be_bytes-to_be_bytes_4 (length bytes) small in
    let fits : ltb (length (bytes ++ rest)) (length_field (record_bytes bytes ++ rest)) ≡ false = le-ltb _ _ (omega (arith, field, length-append bytes rest)) in
    let header : ltb (length (record_bytes bytes ++ rest)) 4 ≡ false = le-ltb _ _ (omega arith) in
    cond-false _ _ _ header ∙ cond-false _ _ _ fits
    ∙ (λ i. Some (take (field i) (bytes ++ rest), drop (field i) (bytes ++ rest)))
    ∙ (λ i. Some (take_at bytes rest (length bytes) refl i, drop_at bytes rest (length bytes) refl i))

pub length-body : (records : List (List ℕ)) → length (body_bytes records) ≡ body_len records
length-body [] = refl
length-body (r ∷ records) =
    length-append (record_bytes r) (body_bytes records) ∙ omega (arith, length-body records, length-append r (body_bytes records), sum_by-cons (λ bytes. 4 + length bytes) r records)

pub body_read : (records : List (List ℕ)) → body_len records ≤ 4194304 → records_of (body_bytes records) ≡ Some records
body_read [] short = records_nil
body_read (r ∷ records) short =
    let sum = sum_by-cons (λ bytes. 4 + length bytes) r records in
    let small : length r < 2 ^ 32 = omega (arith, sum) in
    records_some (record_bytes r ++ body_bytes records) (r, body_bytes records) (split_written r (body_bytes records) small)
    ∙ ap (λ (o : Option (List (List ℕ))). option_map (λ others. r ∷ others) o) (body_read records (omega (arith, sum)))

pub field_is : (records : List (List ℕ)) → FitsGroup records → length_field (group_bytes records) ≡ body_len records
field_is records fits = from_be_bytes-to_be_bytes_4 (body_len records) (omega (arith, fits.not_long))

pub not_empty : (records : List (List ℕ)) → FitsGroup records → 1 ≤ body_len records
not_empty [] fits = absurd (omega (arith, fits.some))
not_empty (r ∷ records) fits = omega (arith, sum_by-cons (λ bytes. 4 + length bytes) r records)

pub group_read : (records : List (List ℕ)) → FitsGroup records → group_of (body_bytes records) ≡ Some records
unfolding group_of
group_read records fits =
    ap (λ (o : Option (List (List ℕ))). option_and_then (λ found. cond (ltb 1024 (length found)) None (Some found)) o) (body_read records fits.not_long)
    ∙ cond-false (ltb 1024 (length records)) None (Some records) (le-ltb 1024 (length records) fits.not_many)

-- a buffer of the whole length that a read filled
pub read_whole : (len : ℕ) (buffer after before found file : List ℕ) → length before ≡ len → len ≡ length file → buffer ≡ take (length before) found
    → found ≡ file → take len (buffer ++ after) ≡ file
read_whole len buffer after before found file before_len len_is filled same =
    let whole : buffer ≡ found = filled ∙ take_all (length before) found (omega (arith, ap length same)) in
    take_at buffer after len (omega (arith, ap length whole, ap length same)) ∙ whole ∙ same

-- a buffer of the length of a front that a read filled
pub read_part : (len most : ℕ) (buffer after before found file : List ℕ) → length before ≡ len → len ≤ length file → len ≤ most → (len < most → length file ≤ len) → buffer ≡ take (length before) found
    → found ≡ file → take len (buffer ++ after) ≡ take most file
read_part len most buffer after before found file before_len inside within short filled same =
    let part : buffer ≡ take len file = filled ∙ (λ i. take (before_len i) (same i)) in
    take_at buffer after len (ap length part ∙ length-take-le len file inside) ∙ part ∙ elim (cases_lt len most) [
      | inl less ↦ take_all len file (short less) ∙ sym (take_all most file (omega (arith, short less)))
      | inr full ↦ let is : len ≡ most = omega arith in ap (λ (n : ℕ). take n file) is
    ]
