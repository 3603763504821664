-- The elements of a list of a committee file, read one by one.
use Rattle.std.proofs.Common.{◌≡◌, ℕ, suc, zero, ◌+◌, ◌<◌, Bool, true, false, List, [], ◌∷◌, ◌++◌, map, take, length, get_or, Option, Some, None, refl, ap, arith}
use Rattle.std.proofs.lemmas.List.{map-append, take_more}
use Rattle.std.proofs.lemmas.List.Elements.{All-cons, filter_map-append}
use Rattle.std.proofs.lemmas.List.Folds.{list_any-append}
use Rattle.std.specs.List.{All, list_any, filter_map, cons_option}
use Rattle.std.specs.Prelude.{◌||◌, is_none}
use Rattle.toml.specs.Data.{Data}
use Rattle.toml.specs.View.{view, items_of}
use Rattle.toml.specs.declared.value.Value.{Value}
use Rattle.committee.specs.File.{elements}

-- a list as items, as a list again
pub elements-items_of : (list : List Data) → elements (items_of list) ≡ list
elements-items_of [] = refl
elements-items_of (d ∷ list) = ap (λ rest. d ∷ rest) (elements-items_of list)

-- one more value, seen as its data
seen_more : (values : List Value) (i : ℕ) (value : Value) → i < length values → value ≡ get_or values i value → map view (take (i + 1) values) ≡ map view (take i values) ++ view value ∷ []
seen_more values i value within here = rw (take_more values i value within, map-append, ← here)

or_true : (b : Bool) → (b || true) ≡ true
or_true true = refl
or_true false = refl

module _ {X : Type 0} (read : Data → Option X) where
  -- an element that is read adds what it is
  pub read_more : (values : List Value) (i : ℕ) (value : Value) (x : X) → i < length values → value ≡ get_or values i value → read (view value) ≡ Some x
      → filter_map read (map view (take (i + 1) values)) ≡ filter_map read (map view (take i values)) ++ x ∷ []
  read_more values i value x within here is = rw (seen_more values i value within here, filter_map-append, is)

  -- and doesn't count as none
  pub each_more : (values : List Value) (i : ℕ) (value : Value) (x : X) → i < length values → value ≡ get_or values i value → read (view value) ≡ Some x
      → list_any (λ d. is_none (read d)) (map view (take i values)) ≡ false → list_any (λ d. is_none (read d)) (map view (take (i + 1) values)) ≡ false
  each_more values i value x within here is before = rw (seen_more values i value within here, list_any-append, is, before)

  -- an element that can't be read is one of the list
  pub none_at : (values : List Value) (i : ℕ) (value : Value) → i < length values → value ≡ get_or values i value → read (view value) ≡ None
      → list_any (λ d. is_none (read d)) (map view values) ≡ true
  none_at (v ∷ values) zero value within here is = rw (← here, is)
  none_at (v ∷ values) (suc i) value within here is = rw (none_at values i value (omega arith) here is) (or_true (is_none (read (view v))))
  none_at [] i value within here is = absurd (omega arith)

  one_read : (o : Option X) (xs : List X) (n : ℕ) (missing : Bool) → (is_none o || missing) ≡ false → (missing ≡ false → length xs ≡ n) → length (cons_option o xs) ≡ suc n
  one_read None xs n missing h rest = absurd cc
  one_read (Some x) xs n missing h rest = ap suc (rest h)

  -- where each element is read there are as many as elements
  pub length-read : (list : List Data) → list_any (λ d. is_none (read d)) list ≡ false → length (filter_map read list) ≡ length list
  length-read [] h = refl
  length-read (d ∷ list) h = one_read (read d) (filter_map read list) (length list) (list_any (λ e. is_none (read e)) list) h (length-read list)

  one_more : (P : X → Type 0) (o : Option X) (xs : List X) → ((x : X) → o ≡ Some x → P x) → All P xs → All P (cons_option o xs)
  one_more P None xs one rest = rest
  one_more P (Some x) xs one rest = All-cons P x xs (one x refl) rest

  -- what holds of whatever is read holds of each
  pub All-read : (P : X → Type 0) → ((d : Data) (x : X) → read d ≡ Some x → P x) → (list : List Data) → All P (filter_map read list)
  All-read P each [] = λ k d within. absurd (omega arith)
  All-read P each (e ∷ list) = one_more P (read e) (filter_map read list) (each e) (All-read P each list)
