-- Pieces of a list, one value more.
use Rattle.std.proofs.Common.{◌≡◌, ℕ, zero, suc, ◌+◌, ◌-◌, ◌<◌, List, [], ◌∷◌, ◌++◌, length, take, drop, min, slice_get, Some, None, append_assoc, refl, sym, ap, ◌∙◌, arith}
use Rattle.std.specs.Int.{w32, w64, to_be_bytes}
use Rattle.std.specs.List.{flat_map}
use Rattle.std.proofs.lemmas.Grind.{flat_map-append}
use Rattle.std.proofs.lemmas.List.{append-nil, length-drop, length-take, take_min}
use Rattle.std.proofs.lemmas.Option.{none-some}
use Rattle.spec_checkpoint.specs.Records.{coins_record}
use Rattle.checkpoint.proofs.Copied.{one_more}

drop_get : {X : Type 0} (xs : List X) (from i : ℕ) → slice_get (drop from xs) i ≡ slice_get xs (from + i)
drop_get [] zero i = refl
drop_get [] (suc from) i = refl
drop_get (x ∷ xs) zero i = ap (slice_get (x ∷ xs)) (let same : i ≡ 0 + i = omega arith in same)
drop_get (x ∷ xs) (suc from) i = drop_get xs from i ∙ sym (ap (slice_get (x ∷ xs)) (let next : suc from + i ≡ suc (from + i) = omega arith in next))

-- one value more of those from a place on
pub value_more : {X : Type 0} (bytes_of : X → List ℕ) (xs : List X) (from i : ℕ) (x : X) (start before : List ℕ) → slice_get xs (from + i) ≡ Some x
    → before ≡ start ++ flat_map bytes_of (take i (drop from xs)) → before ++ bytes_of x ≡ start ++ flat_map bytes_of (take (i + 1) (drop from xs))
value_more bytes_of xs from i x start before is put =
    ap (λ l. l ++ bytes_of x) put ∙ append_assoc start (flat_map bytes_of (take i (drop from xs))) (bytes_of x)
    ∙ ap (λ l. start ++ l) (sym (ap (flat_map bytes_of) (one_more (drop from xs) i x (drop_get xs from i ∙ is)) ∙ flat_map-append bytes_of (take i (drop from xs)) (x ∷ [])
    ∙ ap (λ l. flat_map bytes_of (take i (drop from xs)) ++ l) (append-nil (bytes_of x))))

-- within a list there is a value
pub some_there : {X : Type 0} (xs : List X) (i : ℕ) → i < length xs → slice_get xs i ≡ None → ⊥
some_there [] i within none = omega (arith, within)
some_there (x ∷ xs) zero within none = none-some x (sym none)
some_there (x ∷ xs) (suc i) within none = some_there xs i (omega (arith, within)) none

-- a piece from a place on has so many values, or those that are left
pub piece_length : {X : Type 0} (xs : List X) (from size count : ℕ) → count ≡ min size (length xs - from) → count ≡ length (take size (drop from xs))
piece_length xs from size count is = is ∙ ap (min size) (sym (length-drop from xs)) ∙ sym (length-take size (drop from xs))

pub piece_same : {X : Type 0} (xs : List X) (from size count : ℕ) → count ≡ min size (length xs - from) → take count (drop from xs) ≡ take size (drop from xs)
piece_same xs from size count is = ap (λ n. take n (drop from xs)) (is ∙ ap (min size) (sym (length-drop from xs))) ∙ take_min size (drop from xs)

-- ---- what is written of each element

-- with what is written of the next one
pub each_more : {X : Type 0} (bytes_of : X → List ℕ) (xs : List X) (i : ℕ) (x : X) → slice_get xs i ≡ Some x → flat_map bytes_of (take (i + 1) xs) ≡ flat_map bytes_of (take i xs) ++ bytes_of x
each_more bytes_of xs i x is =
    ap (flat_map bytes_of) (one_more xs i x is) ∙ flat_map-append bytes_of (take i xs) (x ∷ []) ∙ ap (λ l. flat_map bytes_of (take i xs) ++ l) (append-nil (bytes_of x))

-- ---- the record of a piece of the coins

pub coins_record_is : (coins : List ℕ) (from size count : ℕ) (bytes : List ℕ) → count ≡ min size (length coins - from)
    → bytes ≡ 8 ∷ to_be_bytes w32 count ++ flat_map (to_be_bytes w64) (take count (drop from coins)) → bytes ≡ coins_record (take size (drop from coins))
coins_record_is coins from size count bytes is put =
    put ∙ ap (λ n. 8 ∷ to_be_bytes w32 n ++ flat_map (to_be_bytes w64) (take count (drop from coins))) (piece_length coins from size count is)
    ∙ ap (λ l. 8 ∷ to_be_bytes w32 (length (take size (drop from coins))) ++ flat_map (to_be_bytes w64) l) (piece_same coins from size count is)
