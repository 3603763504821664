-- How the records of a group add up.
use Rattle.std.proofs.Common.{◌≡◌, ℕ, ◌+◌, ◌<◌, ◌≤◌, List, [], length, take, get_or, map, sym, ◌∙◌, ap, arith}
use Rattle.std.proofs.lemmas.List.{take-map, get_or-map, length-map}
use Rattle.std.proofs.lemmas.List.Sums.{sum_by_more_le}
use Rattle.journal.specs.Format.{body_len}
use Rattle.journal.specs.declared.record.Record.{Record}

-- the records so far and the next one are no longer than all of them
pub len_more : (xs : List Record) (i : ℕ) (x : Record) → i < length xs → x ≡ get_or xs i x → body_len (map (λ (r : Record). r.bytes) (take i xs)) +
    (4 + length x.bytes) ≤ body_len (map (λ (r : Record). r.bytes) xs)
len_more xs i x inside is =
    let f : List ℕ → ℕ = λ bytes. 4 + length bytes in
    let each : List (List ℕ) = map (λ (r : Record). r.bytes) xs in
    let front : take i each ≡ map (λ (r : Record). r.bytes) (take i xs) = take-map (λ (r : Record). r.bytes) i xs in
    let item : get_or each i [] ≡ x.bytes = get_or-map (λ (r : Record). r.bytes) xs i x [] inside ∙ ap (λ (r : Record). r.bytes) (sym is) in
    let within : i < length each = omega (arith, length-map xs (λ (r : Record). r.bytes)) in
    let whole = sum_by_more_le f each i [] within in
    omega (arith, whole, ap body_len front, ap length item)
