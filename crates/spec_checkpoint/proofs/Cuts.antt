-- A list in pieces: the first of them, and one more at the end.
use Rattle.std.proofs.Common.{◌≡◌, ℕ, zero, suc, ◌+◌, ◌-◌, ◌*◌, ◌<◌, ◌≤◌, List, [], ◌∷◌, ◌++◌, length, map, take, drop, refl, sym, ap, ◌∙◌, arith, inl, inr}
use Rattle.std.specs.Prelude.{◌/◌, ◌%◌}
use Rattle.std.specs.List.{range_with_len}
use Rattle.std.proofs.Math.Nat.{add-div_left, div-eq_of_lt, div-add-mod}
use Rattle.std.proofs.Math.Path.{fun_ext}
use Rattle.std.proofs.lemmas.Bool.{cases_lt}
use Rattle.std.proofs.lemmas.List.{drop-drop, length-drop, length-append, take_all, drop_all, drop-append-le, take-append-le, nil_from_length}
use Rattle.spec_checkpoint.specs.Records.{cut}

-- how many pieces of this size so many elements have
abbrev pieces_of : ℕ → ℕ → ℕ
pieces_of size count = (count + (size - 1)) / size

-- a range that begins one later, as its numbers less one
shifted : {X : Type 0} (f : ℕ → X) (from count : ℕ) → map f (range_with_len (from + 1) count) ≡ map (λ n. f (n + 1)) (range_with_len from count)
shifted f from zero = refl
shifted f from (suc count) = ap (λ rest. f (from + 1) ∷ rest) (shifted f (from + 1) count)

one_less : (size count : ℕ) → 0 < size → 0 < count → pieces_of size count ≡ suc (pieces_of size (count - size))
one_less size count some any = elim (cases_lt count size) [
  | inl below ↦
      let few : count - size ≡ 0 = omega arith in
      let sum : count + (size - 1) ≡ size + (count - 1) = omega arith in
      let one : (size + (count - 1)) / size ≡ (count - 1) / size + 1 = add-div_left (count - 1) some in
      let none : (count - 1) / size ≡ 0 = div-eq_of_lt (omega arith) in
      let rest : (0 + (size - 1)) / size ≡ 0 = div-eq_of_lt (omega arith) in
      ap (λ n. n / size) sum ∙ one ∙ (rw (few, rest, none) (omega arith))
  | inr more ↦
      let sum : count + (size - 1) ≡ size + (count - size + (size - 1)) = omega arith in
      let one : (size + (count - size + (size - 1))) / size ≡ (count - size + (size - 1)) / size + 1 = add-div_left (count - size + (size - 1)) some in
      ap (λ n. n / size) sum ∙ one ∙ omega arith
]

-- nothing has no pieces
pub cut_none : {X : Type 0} (size : ℕ) → 0 < size → cut {X = X} size [] ≡ []
cut_none size some =
    let none : (0 + (size - 1)) / size ≡ 0 = div-eq_of_lt (omega arith) in
    rw none refl

-- a list that isn't empty is its first piece, and the pieces of what follows
pub cut_first : {X : Type 0} (size : ℕ) (list : List X) → 0 < size → 0 < length list → cut size list ≡ take size list ∷ cut size (drop size list)
cut_first {X} size list some any =
    let piece : ℕ → List X = λ n. take size (drop (size * n) list) in
    let count : pieces_of size (length list) ≡ suc (pieces_of size (length (drop size list))) =
    one_less size (length list) some any ∙ ap (λ n. suc (pieces_of size n)) (sym (length-drop size list)) in
    let first : piece 0 ≡ take size list = (let none : size * 0 ≡ 0 = omega arith in ap (λ n. take size (drop n list)) none) in
    let later : (n : ℕ) → piece (n + 1) ≡ take size (drop (size * n) (drop size list)) =
    λ n. (let sum : size * (n + 1) ≡ size + size * n = omega arith in ap (λ k. take size (drop k list)) sum ∙ ap (take size) (sym (drop-drop (size * n) size list))) in
    ap (λ n. map piece (range_with_len 0 n)) count
    ∙ ap (λ start. start ∷ map piece (range_with_len 1 (pieces_of size (length (drop size list))))) first
    ∙ ap (λ rest. take size list ∷ rest) (shifted piece 0 (pieces_of size (length (drop size list)))
    ∙ ap (λ (f : ℕ → List X). map f (range_with_len 0 (pieces_of size (length (drop size list))))) (fun_ext later))

-- a piece alone
cut_one : {X : Type 0} (size : ℕ) (piece : List X) → 0 < size → 0 < length piece → length piece ≤ size → cut size piece ≡ piece ∷ []
cut_one size piece some any few =
    cut_first size piece some any ∙ rw (take_all size piece few, drop_all size piece few) (ap (λ rest. piece ∷ rest) (cut_none size some))

-- after full pieces one more
cut_after : {X : Type 0} (size full : ℕ) (list piece : List X) → 0 < size → length list ≡ size * full → 0 < length piece → length piece ≤ size
    → cut size (list ++ piece) ≡ cut size list ++ piece ∷ []
cut_after size zero list piece some long any few =
    let none = nil_from_length list (omega arith) in
    rw none (cut_one size piece some any few ∙ ap (λ pieces. pieces ++ piece ∷ []) (sym (cut_none size some)))
cut_after size (suc full) list piece some long any few =
    let here : size ≤ length list = omega arith in
    let left : length (drop size list) ≡ size * full = length-drop size list ∙ omega arith in
    cut_first size (list ++ piece) some (omega (arith, length-append list piece))
    ∙ rw (take-append-le size list piece here, drop-append-le size list piece here)
    (ap (λ rest. take size list ∷ rest) (cut_after size full (drop size list) piece some left any few)
    ∙ ap (λ pieces. pieces ++ piece ∷ []) (sym (cut_first size list some (omega arith))))

-- a list that ends with a full piece, or that is empty
pub cut_more : {X : Type 0} (size : ℕ) (list piece : List X) → 0 < size → length list % size ≡ 0 → 0 < length piece → length piece ≤ size
    → cut size (list ++ piece) ≡ cut size list ++ piece ∷ []
cut_more size list piece some full any few =
    cut_after size (length list / size) list piece some (omega (arith, div-add-mod (length list) size, full)) any few
