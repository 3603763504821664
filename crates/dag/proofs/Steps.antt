-- What loops over a row and over parents have done, and one step more.
use Rattle.std.proofs.Common.{length-append, ◌≡◌, ℕ, zero, suc, ◌+◌, ◌-◌, ◌<◌, ◌≤◌, Bool, true, false, List, [], ◌∷◌, ◌++◌, map, length, Option}
use Rattle.std.proofs.Common.{Some, None, refl, ap, sym, ◌∙◌, arith, add-one, slice_set, replicate}
use Rattle.std.specs.Prelude.{◌||◌, sum_by}
use Rattle.std.specs.List.{list_any, range_with_len}
use Rattle.std.proofs.Math.Seq.{set-append_seam}
use Rattle.std.proofs.lemmas.List.{map-append, append_assoc, length-replicate}
use Rattle.std.proofs.lemmas.List.Folds.{list_any-append}
use Rattle.std.proofs.lemmas.List.Sums.{sum_by_push}
use Rattle.committee.specs.Charter.{numbers}
use Rattle.dag.specs.Rows.{first}
use Rattle.dag.specs.declared.entry.Entry.{Entry}

pub or_false : (b : Bool) → (b || false) ≡ b
or_false true = refl
or_false false = refl

-- one number more at the end
pub range_end : (from count : ℕ) → range_with_len from (suc count) ≡ range_with_len from count ++ (from + count) ∷ []
range_end from zero = ap (λ k. k ∷ []) (omega arith)
range_end from (suc count) =
    let next : (from + 1) + count ≡ from + suc count = omega arith in
    ap (λ l. from ∷ l) (range_end (from + 1) count ∙ ap (λ k. range_with_len (from + 1) count ++ k ∷ []) next)

-- a test of one number more
pub any_more : (test : ℕ → Bool) (count : ℕ) → list_any test (range_with_len 0 (count + 1)) ≡ (list_any test (range_with_len 0 count) || test count)
any_more test count =
    ap (λ k. list_any test (range_with_len 0 k)) (add-one count) ∙ ap (list_any test) (range_end 0 count) ∙ list_any-append test (range_with_len 0 count) ((0 + count) ∷ [])
    ∙ ap (λ b. list_any test (range_with_len 0 count) || b) (or_false (test (0 + count)) ∙ ap test (omega arith))

-- a sum of one number more
pub sum_more : (f : ℕ → ℕ) (count : ℕ) → sum_by f (range_with_len 0 (count + 1)) ≡ sum_by f (range_with_len 0 count) + f count
sum_more f count =
    let same : 0 + count ≡ count = omega arith in
    ap (λ k. sum_by f (range_with_len 0 k)) (add-one count) ∙ ap (sum_by f) (range_end 0 count) ∙ sum_by_push f (range_with_len 0 count) (0 + count)
    ∙ ap (λ k. sum_by f (range_with_len 0 count) + f k) same

-- ---- the row of the genesis

-- the certificates of so many members, and no more
abbrev pub firsts : ℕ → ℕ → List (Option Entry)
firsts size count = map (λ author. Some (first author)) (numbers count) ++ replicate (size - count) None

length-firsts : (from count : ℕ) → length (map (λ author. Some (first author)) (range_with_len from count)) ≡ count
length-firsts from zero = refl
length-firsts from (suc count) = ap suc (length-firsts (from + 1) count)

pub firsts_more : (size count : ℕ) → count < size → slice_set (firsts size count) count (Some (first count)) ≡ firsts size (count + 1)
firsts_more size count within =
    let front = map (λ author. Some (first author)) (numbers count) in
    let left = size - suc count in
    let one : size - count ≡ suc left = omega (arith, within) in
    let next : size - (count + 1) ≡ left = omega arith in
    ap (λ k. slice_set (front ++ replicate k None) count (Some (first count))) one
    ∙ ap (λ i. slice_set (front ++ None ∷ replicate left None) i (Some (first count))) (sym (length-firsts 0 count))
    ∙ set-append_seam front None (replicate left None) (Some (first count))
    ∙ sym (append_assoc front (Some (first count) ∷ []) (replicate left None))
    ∙ ap (λ l. l ++ replicate left None)
    (sym (ap (map (λ author. Some (first author))) (range_end 0 count ∙ ap (λ k. numbers count ++ k ∷ []) (omega arith)) ∙ map-append (λ author. Some (first author)) (numbers count) (count ∷ [])))
    ∙ ap (λ k. map (λ author. Some (first author)) (numbers k) ++ replicate left None) (sym (add-one count))
    ∙ ap (λ k. map (λ author. Some (first author)) (numbers (count + 1)) ++ replicate k None) (sym next)

pub length-all : (size count : ℕ) → count ≤ size → length (firsts size count) ≡ size
length-all size count within =
    let parts = length-append (map (λ author. Some (first author)) (numbers count)) (replicate (size - count) None) in
    let rest = length-replicate {A = Option Entry} (size - count) None in
    let front = length-firsts 0 count in
    omega (arith, parts, rest, front, within)
