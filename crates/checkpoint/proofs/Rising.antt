-- Lists that rise strictly, and what is found in them.
use Rattle.std.proofs.Common.{◌≡◌, ℕ, suc, ◌+◌, ◌<◌, ◌≤◌, Bool, true, false, List, [], ◌∷◌, length, map, Some, inl, inr, refl, ap, ◌∙◌, arith}
use Rattle.std.specs.Prelude.{◌==◌, ◌&&◌, nat_lt, All, AllPairs, Contains, filter, find, option_map}
use Rattle.std.proofs.lemmas.Bool.{cases_Bool, and_from, and_parts, ltb-true}
use Rattle.std.proofs.lemmas.List.Elements.{All-nil, All-cons, All-head, All-tail, All-contains}
use Rattle.std.proofs.lemmas.List.Kept.{AllPairs-cons, AllPairs-filter}
use Rattle.spec_laws.proofs.Lists.{Contains-nothing, Contains-cases, Contains-first, Contains-later}
use Rattle.wire.specs.Rising.{rises}
use Rattle.spec_checkpoint.specs.Data.{place_before}

-- ---- pairs

pub pairs_first : {X : Type 0} (R : X → X → Type 0) (x : X) (xs : List X) → AllPairs R (x ∷ xs) → All (R x) xs
pairs_first R x xs pairs = λ k d within. pairs 0 (suc k) d (omega arith) (omega (arith, within))

pub pairs_rest : {X : Type 0} (R : X → X → Type 0) (x : X) (xs : List X) → AllPairs R (x ∷ xs) → AllPairs R xs
pairs_rest R x xs pairs = λ i j d less within. pairs (suc i) (suc j) d (omega (arith, less)) (omega (arith, within))

pub all_mapped : {X Y : Type 0} (f : X → Y) (P : Y → Type 0) (xs : List X) → All (λ x. P (f x)) xs → All P (map f xs)
all_mapped f P [] each = All-nil P
all_mapped f P (x ∷ xs) each = All-cons P (f x) (map f xs) (All-head (λ y. P (f y)) x xs each) (all_mapped f P xs (All-tail (λ y. P (f y)) x xs each))

pub all_unmapped : {X Y : Type 0} (f : X → Y) (P : Y → Type 0) (xs : List X) → All P (map f xs) → All (λ x. P (f x)) xs
all_unmapped f P [] each = All-nil (λ x. P (f x))
all_unmapped f P (x ∷ xs) each = All-cons (λ y. P (f y)) x xs (All-head P (f x) (map f xs) each) (all_unmapped f P xs (All-tail P (f x) (map f xs) each))

pub all_by : {X : Type 0} (P : X → Type 0) (xs : List X) → ((x : X) → Contains xs x → P x) → All P xs
all_by P [] each = All-nil P
all_by P (x ∷ xs) each = All-cons P x xs (each x (Contains-first xs x)) (all_by P xs (λ y inside. each y (Contains-later x xs y inside)))

pub pairs_mapped : {X Y : Type 0} (f : X → Y) (R : Y → Y → Type 0) (xs : List X) → AllPairs (λ x y. R (f x) (f y)) xs → AllPairs R (map f xs)
pairs_mapped f R [] pairs = λ i j d less within. absurd (omega (arith, within))
pairs_mapped f R (x ∷ xs) pairs =
    AllPairs-cons R (f x) (map f xs) (all_mapped f (R (f x)) xs (pairs_first (λ x y. R (f x) (f y)) x xs pairs)) (pairs_mapped f R xs (pairs_rest (λ x y. R (f x) (f y)) x xs pairs))

-- ---- lists that rise

abbrev pub Before : {X : Type 0} → (X → X → Bool) → X → X → Type 0
Before below one other = below one other ≡ true

pub pairs_rise : {X : Type 0} (below : X → X → Bool) (xs : List X) → AllPairs (Before below) xs → rises below xs ≡ true
pairs_rise below [] pairs = refl
pairs_rise below (x ∷ []) pairs = refl
pairs_rise below (x ∷ y ∷ rest) pairs = and_from (below x y) _ (pairs 0 1 x (omega arith) (omega arith)) (pairs_rise below (y ∷ rest) (pairs_rest (Before below) x (y ∷ rest) pairs))

module _ {X : Type 0} (below : X → X → Bool) (through : (x y z : X) → below x y ≡ true → below y z ≡ true → below x z ≡ true) where
  first_before : (x : X) (xs : List X) → rises below (x ∷ xs) ≡ true → All (Before below x) xs
  first_before x [] is = All-nil (Before below x)
  first_before x (y ∷ xs) is =
      let parts = and_parts (below x y) (rises below (y ∷ xs)) is in
      All-cons (Before below x) y xs parts.0 (all_by (Before below x) xs (λ z inside. through x y z parts.0 (All-contains (Before below y) xs z (first_before y xs parts.1) inside)))

  rest_rises : (x : X) (xs : List X) → rises below (x ∷ xs) ≡ true → rises below xs ≡ true
  rest_rises x [] is = refl
  rest_rises x (y ∷ xs) is = (and_parts (below x y) (rises below (y ∷ xs)) is).1

  pub rise_pairs : (xs : List X) → rises below xs ≡ true → AllPairs (Before below) xs
  rise_pairs [] is = λ i j d less within. absurd (omega (arith, within))
  rise_pairs (x ∷ xs) is = AllPairs-cons (Before below) x xs (first_before x xs is) (rise_pairs xs (rest_rises x xs is))

  -- so do those of them that pass a test
  pub filter_rises : (test : X → Bool) (xs : List X) → rises below xs ≡ true → rises below (filter test xs) ≡ true
  filter_rises test xs is = pairs_rise below (filter test xs) (AllPairs-filter (Before below) test xs (rise_pairs xs is))

-- an element is what its own test finds, where one that comes before it doesn't pass that
pub found_itself : {X : Type 0} (below : X → X → Bool) (test : X → Bool) (xs : List X) (x : X) → AllPairs (Before below) xs → Contains xs x → test x ≡ true
    → ((y : X) → below y x ≡ true → test y ≡ false) → find test xs ≡ Some x
found_itself below test [] x pairs inside passes apart = absurd (Contains-nothing x inside)
found_itself below test (y ∷ xs) x pairs inside passes apart = elim (Contains-cases y xs x inside) [
  | inl same ↦ (let here : test y ≡ true = ap test same ∙ passes in rw here (ap (λ z. Some z) same))
  | inr later ↦
      (let off = apart y (All-contains (Before below y) xs x (pairs_first (Before below) y xs pairs) later) in rw off
      (found_itself below test xs x (pairs_rest (Before below) y xs pairs) later passes apart))
]

-- what is found in a list that is made of another one
pub find-map : {X Y : Type 0} (f : X → Y) (test : Y → Bool) (xs : List X) → find test (map f xs) ≡ option_map f (find (λ x. test (f x)) xs)
find-map f test [] = refl
find-map f test (x ∷ xs) = elim (cases_Bool (test (f x))) [ inl so ↦ rw so refl | inr off ↦ rw off (find-map f test xs) ]

-- ---- numbers and places

pub numbers_through : (a b c : ℕ) → nat_lt a b ≡ true → nat_lt b c ≡ true → nat_lt a c ≡ true
numbers_through a b c one two = grind (arith, one, two)

pub numbers_apart : (a b : ℕ) → nat_lt a b ≡ true → (a == b) ≡ false
numbers_apart a b is = grind (arith, is)

pub places_through : (a b c d e f : ℕ) → place_before a b c d ≡ true → place_before c d e f ≡ true → place_before a b e f ≡ true
places_through a b c d e f one two = grind (arith, one, two)

pub places_apart : (a b c d : ℕ) → place_before a b c d ≡ true → ((a == c) && (b == d)) ≡ false
places_apart a b c d is = grind (arith, is)

-- numbers that rise from one on, and lie below another, are no more than there are between
pub few_between : {X : Type 0} (number : X → ℕ) (from size : ℕ) (xs : List X) → AllPairs (Before (λ x y. nat_lt (number x) (number y))) xs
    → All (λ x. from ≤ number x) xs → All (λ x. number x < size) xs → from ≤ size → from + length xs ≤ size
few_between number from size [] pairs least most low = omega (arith, low)
few_between number from size (x ∷ xs) pairs least most low =
    let here = All-head (λ y. from ≤ number y) x xs least in
    let below = All-head (λ y. number y < size) x xs most in
    let rest = few_between number (number x + 1) size xs (pairs_rest (Before (λ x y. nat_lt (number x) (number y))) x xs pairs)
    (all_by (λ y. number x + 1 ≤ number y) xs (λ y inside.
    let less = ltb-true (number x) (number y) (All-contains (Before (λ x y. nat_lt (number x) (number y)) x) xs y (pairs_first (Before (λ x y. nat_lt (number x) (number y))) x xs pairs) inside) in
    omega (arith, less)))
    (All-tail (λ y. number y < size) x xs most) (omega (arith, below)) in
    omega (arith, here, rest)
