-- How the records of a group add up.
use Rattle.std.proofs.Common.{◌≡◌, ℕ, ◌+◌, ◌<◌, ◌≤◌, List, [], ◌∷◌, length, take, get_or, Vec, sym, ◌∙◌, ap, arith, length-append}
use Rattle.std.proofs.lemmas.List.{take-map, get_or-map, length-map}
use Rattle.std.proofs.lemmas.List.Sums.{sum_by_more_le}
use Rattle.std.specs.declared.alloc.Global.{Global}
use Rattle.journal.specs.Format.{FitsGroup, body_len, contents, body_bytes, group_bytes}
use Rattle.journal.proofs.Bytes.{length-body}

-- the records so far and the next one are no longer than all of them
pub len_more : (xs : List (Vec ℕ Global)) (i : ℕ) (x : Vec ℕ Global) → i < length xs → x ≡ get_or xs i x → body_len (contents (take i xs)) + (4 + length x.items) ≤ body_len (contents xs)
len_more xs i x inside is =
    let f : List ℕ → ℕ = λ bytes. 4 + length bytes in
    let front : take i (contents xs) ≡ contents (take i xs) = take-map (λ (v : Vec ℕ Global). v.items) i xs in
    let item : get_or (contents xs) i [] ≡ x.items = get_or-map (λ (v : Vec ℕ Global). v.items) xs i x [] inside ∙ ap (λ (v : Vec ℕ Global). v.items) (sym is) in
    let within : i < length (contents xs) = omega (arith, length-map xs (λ (v : Vec ℕ Global). v.items)) in
    let whole = sum_by_more_le f (contents xs) i [] within in
    omega (arith, whole, ap body_len front, ap length item)

pub length-group : (records : List (List ℕ)) → length (group_bytes records) ≡ 5 + body_len records
length-group records = omega (arith, length-append (body_bytes records) (0 ∷ []), length-body records)

-- the limits that were tested
pub fits_from : (records front : List (Vec ℕ Global)) (count len : ℕ) → front ≡ records → count ≡ length records → 1 ≤ count → count ≤ 1024
    → (body_len (contents front) ≤ 4194304) × (len ≡ body_len (contents front)) → FitsGroup (contents records)
fits_from records front count len same counts some not_many short =
    let many : length (contents records) ≡ length records = length-map records (λ (v : Vec ℕ Global). v.items) in
    record {
      some = omega arith;
      not_many = omega arith;
      not_long = omega (arith, short.0, ap (λ (rs : List (Vec ℕ Global)). body_len (contents rs)) same);
    }
