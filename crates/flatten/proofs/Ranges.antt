-- Numbers in a row.
use Rattle.std.proofs.Common.{◌≡◌, ℕ, zero, suc, ◌+◌, ◌-◌, ◌<◌, ◌≤◌, Option, Bool, false, List, [], ◌∷◌, ◌++◌, refl, ap, sym, ◌∙◌, add-one, arith}
use Rattle.std.specs.Prelude.{sum_by, filter_map, flat_map}
use Rattle.std.specs.Option.{option_to_list}
use Rattle.std.proofs.lemmas.Grind.{flat_map-append}
use Rattle.std.proofs.lemmas.List.{append-nil}
use Rattle.std.proofs.lemmas.List.Concat.{flat_map-cons}
use Rattle.spec_laws.proofs.Lists.{filter_map-push}
use Rattle.std.specs.List.{list_any, range_with_len}
use Rattle.std.proofs.lemmas.List.Sums.{sum_by-cons, sum_by-append}
use Rattle.dag.proofs.Steps.{range_end}

pub range_more : (from count : ℕ) → range_with_len from (count + 1) ≡ range_with_len from count ++ (from + count) ∷ []
range_more from count = ap (range_with_len from) (add-one count) ∙ range_end from count

pub any_none : {X : Type 0} (test : X → Bool) (xs : List X) → ((x : X) → test x ≡ false) → list_any test xs ≡ false
any_none test [] fails = refl
any_none test (x ∷ xs) fails = let here = fails x in rw here (any_none test xs fails)

-- what is made of one number more
pub made_more : {X : Type 0} (make : ℕ → Option X) (count : ℕ) → filter_map make (range_with_len 0 (count + 1)) ≡ filter_map make (range_with_len 0 count) ++ option_to_list (make count)
made_more make count =
    let same : 0 + count ≡ count = omega arith in
    ap (filter_map make) (range_more 0 count) ∙ filter_map-push make (range_with_len 0 count) (0 + count)
    ∙ ap (λ k. filter_map make (range_with_len 0 count) ++ option_to_list (make k)) same

-- the lists of one number more
pub lists_more : {X : Type 0} (make : ℕ → List X) (from to : ℕ) → from ≤ to → flat_map make (range_with_len from (to + 1 - from)) ≡ flat_map make (range_with_len from (to - from)) ++ make to
lists_more make from to within =
    let count : to + 1 - from ≡ (to - from) + 1 = omega (arith, within) in
    let last : from + (to - from) ≡ to = omega (arith, within) in
    ap (λ n. flat_map make (range_with_len from n)) count ∙ ap (flat_map make) (range_more from (to - from))
    ∙ flat_map-append make (range_with_len from (to - from)) ((from + (to - from)) ∷ [])
    ∙ ap (λ l. flat_map make (range_with_len from (to - from)) ++ l) (append-nil (make (from + (to - from))) ∙ ap make last)

-- numbers in two parts
pub range_parts : (from one more : ℕ) → range_with_len from (one + more) ≡ range_with_len from one ++ range_with_len (from + one) more
range_parts from zero more =
    let same : from ≡ from + 0 = omega arith in
    let count : 0 + more ≡ more = omega arith in
    ap (range_with_len from) count ∙ ap (λ a. range_with_len a more) same
range_parts from (suc one) more =
    let count : suc one + more ≡ suc (one + more) = omega arith in
    let rest : from + 1 + one ≡ from + suc one = omega arith in
    ap (range_with_len from) count ∙ ap (λ l. from ∷ l) (range_parts (from + 1) one more ∙ ap (λ a. range_with_len (from + 1) one ++ range_with_len a more) rest)

-- lists that are made alike of each number
pub lists_same : {X : Type 0} (f g : ℕ → List X) (from count : ℕ) → ((r : ℕ) → from ≤ r → r < from + count → f r ≡ g r)
    → flat_map f (range_with_len from count) ≡ flat_map g (range_with_len from count)
lists_same f g from zero same = refl
lists_same f g from (suc count) same =
    flat_map-cons f from (range_with_len (from + 1) count)
    ∙ ap (λ l. l ++ flat_map f (range_with_len (from + 1) count)) (same from (omega arith) (omega arith))
    ∙ ap (λ l. g from ++ l) (lists_same f g (from + 1) count (λ r above below. same r (omega (arith, above)) (omega (arith, below))))
    ∙ sym (flat_map-cons g from (range_with_len (from + 1) count))

pub lists_none : {X : Type 0} (f : ℕ → List X) (from count : ℕ) → ((r : ℕ) → from ≤ r → r < from + count → f r ≡ []) → flat_map f (range_with_len from count) ≡ []
lists_none f from zero none = refl
lists_none f from (suc count) none =
    flat_map-cons f from (range_with_len (from + 1) count)
    ∙ ap (λ l. l ++ flat_map f (range_with_len (from + 1) count)) (none from (omega arith) (omega arith))
    ∙ lists_none f (from + 1) count (λ r above below. none r (omega (arith, above)) (omega (arith, below)))

-- sums alike
pub sums_same : (f g : ℕ → ℕ) (from count : ℕ) → ((r : ℕ) → from ≤ r → r < from + count → f r ≡ g r) → sum_by f (range_with_len from count) ≡ sum_by g (range_with_len from count)
sums_same f g from zero same = refl
sums_same f g from (suc count) same =
    sum_by-cons f from (range_with_len (from + 1) count)
    ∙ ap (λ k. k + sum_by f (range_with_len (from + 1) count)) (same from (omega arith) (omega arith))
    ∙ ap (λ k. g from + k) (sums_same f g (from + 1) count (λ r above below. same r (omega (arith, above)) (omega (arith, below))))
    ∙ sym (sum_by-cons g from (range_with_len (from + 1) count))

pub sum_lists : {X : Type 0} (g : X → ℕ) (f : ℕ → List X) (xs : List ℕ) → sum_by g (flat_map f xs) ≡ sum_by (λ x. sum_by g (f x)) xs
sum_lists g f [] = refl
sum_lists g f (x ∷ xs) =
    ap (sum_by g) (flat_map-cons f x xs) ∙ sum_by-append g (f x) (flat_map f xs) ∙ ap (λ k. sum_by g (f x) + k) (sum_lists g f xs)
    ∙ sym (sum_by-cons (λ y. sum_by g (f y)) x xs)

-- a sum of nothing
pub sum_zero : {X : Type 0} (f : X → ℕ) (xs : List X) → ((x : X) → f x ≡ 0) → sum_by f xs ≡ 0
sum_zero f [] none = refl
sum_zero f (x ∷ xs) none =
    let here = none x in
    let rest = sum_zero f xs none in
    let nothing_more : 0 + sum_by f xs ≡ 0 = omega (arith, rest) in
    sum_by-cons f x xs ∙ ap (λ k. k + sum_by f xs) here ∙ nothing_more

pub sums_none : (f : ℕ → ℕ) (from count : ℕ) → ((r : ℕ) → from ≤ r → r < from + count → f r ≡ 0) → sum_by f (range_with_len from count) ≡ 0
sums_none f from zero none = refl
sums_none f from (suc count) none =
    let rest = sums_none f (from + 1) count (λ r above below. none r (omega (arith, above)) (omega (arith, below))) in
    let nothing_more : 0 + sum_by f (range_with_len (from + 1) count) ≡ 0 = omega (arith, rest) in
    sum_by-cons f from (range_with_len (from + 1) count)
    ∙ ap (λ k. k + sum_by f (range_with_len (from + 1) count)) (none from (omega arith) (omega arith))
    ∙ nothing_more

-- a sum of no more
pub sum_less : {X : Type 0} (f g : X → ℕ) (xs : List X) → ((x : X) → f x ≤ g x) → sum_by f xs ≤ sum_by g xs
sum_less f g [] less = omega arith
sum_less f g (x ∷ xs) less =
    let here = less x in
    let rest = sum_less f g xs less in
    let one = sum_by-cons f x xs in
    let other = sum_by-cons g x xs in
    omega (arith, here, rest, one, other)
