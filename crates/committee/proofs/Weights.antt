-- What members weigh.
use Rattle.std.proofs.Common.{◌≡◌, ◌≢◌, ℕ, zero, suc, ◌+◌, ◌<◌, ◌≤◌, Bool, true, false, cond, List, [], ◌∷◌, length, get_or, take, refl, ap, sym, ◌∙◌, inl, inr, arith}
use Rattle.std.specs.Prelude.{◌&&◌, ◌||◌, ◌==◌, not, sum, sum_by, count_by, All, AllPairs}
use Rattle.std.specs.List.{list_any, range_with_len}
use Rattle.std.proofs.lemmas.Bool.{cases_Bool, eqb-true, ne_eqb, eq-eqb, cases_lt, and_right}
use Rattle.std.proofs.lemmas.Cmp.{nat_eq_equiv}
use Rattle.std.proofs.lemmas.List.Elements.{All-head, All-tail}
use Rattle.std.proofs.lemmas.List.{get_or-take, length-take-le}
use Rattle.std.proofs.lemmas.List.FromFn.{fill_by_all, sum_by-map-range_with_len_more}
use Rattle.std.proofs.lemmas.List.Sums.{sum_by-cons, sum_by-take-le, sum-map}
use Rattle.committee.specs.Charter.{Charter, numbers, stake_of, weight, total_of}
use Rattle.committee.specs.Shared.{Holder, QuorumMeetsSupport}

-- ---- sums over the numbers from one on

-- the parts of two sums
two_heads : (f g : ℕ → ℕ) (a : ℕ) (ms : List ℕ) → f a ≡ g a → sum_by f ms ≡ sum_by g ms → sum_by f (a ∷ ms) ≡ sum_by g (a ∷ ms)
two_heads f g a ms one rest = omega (arith, sum_by-cons f a ms, sum_by-cons g a ms, one, rest)

sum-same : (f g : ℕ → ℕ) (a n : ℕ) → ((m : ℕ) → a ≤ m → m < a + n → f m ≡ g m) → sum_by f (range_with_len a n) ≡ sum_by g (range_with_len a n)
sum-same f g a zero same = refl
sum-same f g a (suc n) same =
    two_heads f g a (range_with_len (a + 1) n) (same a (omega arith) (omega arith))
    (sum-same f g (a + 1) n (λ m low high. same m (omega arith) (omega arith)))

sum-within : (f g : ℕ → ℕ) (a n : ℕ) → ((m : ℕ) → a ≤ m → m < a + n → f m ≤ g m) → sum_by f (range_with_len a n) ≤ sum_by g (range_with_len a n)
sum-within f g a zero within = omega arith
sum-within f g a (suc n) within =
    let one = within a (omega arith) (omega arith) in
    let rest = sum-within f g (a + 1) n (λ m low high. within m (omega arith) (omega arith)) in
    omega (arith, sum_by-cons f a (range_with_len (a + 1) n), sum_by-cons g a (range_with_len (a + 1) n), one, rest)

sum-none : (f : ℕ → ℕ) (a n : ℕ) → ((m : ℕ) → a ≤ m → m < a + n → f m ≡ 0) → sum_by f (range_with_len a n) ≡ 0
sum-none f a zero none = refl
sum-none f a (suc n) none =
    let one = none a (omega arith) (omega arith) in
    let rest = sum-none f (a + 1) n (λ m low high. none m (omega arith) (omega arith)) in
    omega (arith, sum_by-cons f a (range_with_len (a + 1) n), one, rest)

sum-plus : (f g : ℕ → ℕ) (ms : List ℕ) → sum_by f ms + sum_by g ms ≡ sum_by (λ m. f m + g m) ms
sum-plus f g [] = refl
sum-plus f g (m ∷ ms) = omega (arith, sum_by-cons f m ms, sum_by-cons g m ms, sum_by-cons (λ k. f k + g k) m ms, sum-plus f g ms)

-- all but one of the numbers count 0
sum-one : (f : ℕ → ℕ) (x a n : ℕ) → a ≤ x → x < a + n → ((m : ℕ) → m ≢ x → f m ≡ 0) → sum_by f (range_with_len a n) ≡ f x
sum-one f x a zero low high others = absurd (omega arith)
sum-one f x a (suc n) low high others =
    let parts = sum_by-cons f a (range_with_len (a + 1) n) in
    elim (cases_Bool (a == x)) [
      | inl same ↦
          let is : a ≡ x = eqb-true a x same in
          let rest = sum-none f (a + 1) n (λ m from to. let other : m ≢ x = omega arith in others m other) in
          omega (arith, parts, rest, ap f is)
      | inr apart ↦
          let other : a ≢ x = λ e. (let same = eq-eqb a x e in absurd cc) in
          let rest = sum-one f x (a + 1) n (omega arith) (omega arith) others in
          omega (arith, parts, rest, others a other)
    ]

-- a sum above 0 has a term above 0
record Positive (f : ℕ → ℕ) (a n : ℕ) : Type 0 where
  place : ℕ
  low : a ≤ place
  high : place < a + n
  positive : 0 < f place

sum-positive : (f : ℕ → ℕ) (a n : ℕ) → 0 < sum_by f (range_with_len a n) → Positive f a n
sum-positive f a zero h = absurd (omega arith)
sum-positive f a (suc n) h =
    let parts = sum_by-cons f a (range_with_len (a + 1) n) in
    elim (cases_lt 0 (f a)) [
      | inl here ↦ record { place = a; low = omega arith; high = omega arith; positive = here }
      | inr none ↦
          let later = sum-positive f (a + 1) n (omega arith) in
          record { place = later.place; low = omega (arith, later.low); high = omega (arith, later.high); positive = later.positive }
    ]

-- ---- of one member

same_test : (p q : Bool) (stake : ℕ) → p ≡ q → cond p stake 0 ≡ cond q stake 0
same_test p q stake same = ap (λ b. cond b stake 0) same

implied_test : (p q : Bool) (stake : ℕ) → (p ≡ true → q ≡ true) → cond p stake 0 ≤ cond q stake 0
implied_test true true stake implied = omega arith
implied_test true false stake implied = let never = implied refl in absurd cc
implied_test false q stake implied = omega arith

both_tests : (p q : Bool) (stake : ℕ) → cond p stake 0 + cond q stake 0 ≡ cond (p || q) stake 0 + cond (p && q) stake 0
both_tests true true stake = refl
both_tests true false stake = refl
both_tests false true stake = omega arith
both_tests false false stake = refl

test_holds : (p : Bool) (stake : ℕ) → 0 < cond p stake 0 → p ≡ true
test_holds true stake h = refl
test_holds false stake h = absurd (omega arith)

-- ---- weights

-- who holds the same members weighs the same
pub weight-same : (charter : Charter) (p q : ℕ → Bool) → ((m : ℕ) → m < length charter.keys → p m ≡ q m) → weight charter p ≡ weight charter q
weight-same charter p q same =
    sum-same (λ m. cond (p m) (stake_of charter m) 0) (λ m. cond (q m) (stake_of charter m) 0) 0 (length charter.keys)
    (λ m low high. same_test (p m) (q m) (stake_of charter m) (same m (omega arith)))

-- more members weigh no less
pub weight-within : (charter : Charter) (p q : ℕ → Bool) → ((m : ℕ) → m < length charter.keys → p m ≡ true → q m ≡ true) → weight charter p ≤ weight charter q
weight-within charter p q within =
    sum-within (λ m. cond (p m) (stake_of charter m) 0) (λ m. cond (q m) (stake_of charter m) 0) 0 (length charter.keys)
    (λ m low high. implied_test (p m) (q m) (stake_of charter m) (within m (omega arith)))

-- no members weigh nothing
pub weight-none : (charter : Charter) → weight charter (λ _. false) ≡ 0
weight-none charter = sum-none (λ m. 0) 0 (length charter.keys) (λ m low high. refl)

-- all members weigh the total
pub weight-all : (charter : Charter) → length charter.stakes ≡ length charter.keys → weight charter (λ _. true) ≡ total_of charter
weight-all charter staked =
    let listed = fill_by_all (stake_of charter) charter.stakes (length charter.keys) 0 staked (λ k within. refl) in
    sym (ap sum listed ∙ sum-map (stake_of charter) (numbers (length charter.keys)))

either : (b : Bool) → (b || not b) ≡ true
either true = refl
either false = refl

never_both : (b : Bool) → (b && not b) ≡ false
never_both true = refl
never_both false = refl

-- nobody weighs more than all
pub weight-most : (charter : Charter) (p : ℕ → Bool) → length charter.stakes ≡ length charter.keys → weight charter p ≤ total_of charter
weight-most charter p staked = omega (arith, weight-within charter p (λ _. true) (λ m within h. refl), weight-all charter staked)

-- two sets weigh what their union and what they share weigh
pub weight-or-and : (charter : Charter) (p q : ℕ → Bool) → weight charter p + weight charter q ≡ weight charter (λ m. p m || q m) + weight charter (λ m. p m && q m)
weight-or-and charter p q =
    let stake = stake_of charter in
    let ms = numbers (length charter.keys) in
    sum-plus (λ m. cond (p m) (stake m) 0) (λ m. cond (q m) (stake m) 0) ms
    ∙ sum-same (λ m. cond (p m) (stake m) 0 + cond (q m) (stake m) 0) (λ m. cond (p m || q m) (stake m) 0 + cond (p m && q m) (stake m) 0) 0
    (length charter.keys) (λ m low high. both_tests (p m) (q m) (stake m))
    ∙ sym (sum-plus (λ m. cond (p m || q m) (stake m) 0) (λ m. cond (p m && q m) (stake m) 0) ms)

-- sets that share nobody weigh together what their union weighs
pub weight-apart : (charter : Charter) (p q : ℕ → Bool) → ((m : ℕ) → (p m && q m) ≡ false) → weight charter (λ m. p m || q m) ≡ weight charter p + weight charter q
weight-apart charter p q apart =
    let none = weight-same charter (λ m. p m && q m) (λ _. false) (λ m within. apart m) ∙ weight-none charter in
    omega (arith, weight-or-and charter p q, none)

-- those of whom something holds and those of whom it doesn't weigh the total together
pub weight-others : (charter : Charter) (p : ℕ → Bool) → length charter.stakes ≡ length charter.keys → weight charter p + weight charter (λ m. not (p m)) ≡ total_of charter
weight-others charter p staked =
    let parts = weight-apart charter p (λ m. not (p m)) (λ m. never_both (p m)) in
    let all = weight-same charter (λ m. p m || not (p m)) (λ _. true) (λ m within. either (p m)) in
    omega (arith, parts, all, weight-all charter staked)

excepted : (p q : Bool) → p ≡ true → ((p && not q) || q) ≡ true
excepted true true is = refl
excepted true false is = refl
excepted false q is = absurd cc

-- without those of a second set, a set loses at most what these weigh
pub weight-without : (charter : Charter) (p q : ℕ → Bool) → weight charter p ≤ weight charter (λ m. p m && not (q m)) + weight charter q
weight-without charter p q =
    let within = weight-within charter p (λ m. (p m && not (q m)) || q m) (λ m inside is. excepted (p m) (q m) is) in
    let parts = weight-or-and charter (λ m. p m && not (q m)) q in
    omega (arith, within, parts)

-- a quorum shares a member with all who are enough for support
pub quorum_meets : QuorumMeetsSupport
quorum_meets charter quorum support is enough enough' =
    omega (arith, weight-or-and charter quorum support, weight-most charter (λ m. quorum m || support m) is.staked, enough, enough')

differs : (m x : ℕ) → m ≢ x → (m == x) ≡ false
differs m x other = ne_eqb m x other

-- one member weighs its stake
pub weight-one : (charter : Charter) (x : ℕ) → x < length charter.keys → weight charter (λ m. m == x) ≡ stake_of charter x
weight-one charter x within =
    sum-one (λ m. cond (m == x) (stake_of charter m) 0) x 0 (length charter.keys) (omega arith) (omega arith)
    (λ m other. same_test (m == x) false (stake_of charter m) (differs m x other))
    ∙ same_test (x == x) true (stake_of charter x) (eq-eqb x x refl)

-- where something doesn't hold of a member it holds of no number that is the member's
not_both : (p : ℕ → Bool) (x m : ℕ) → p x ≡ false → (p m && (m == x)) ≡ false
not_both p x m absent =
    elim (cases_Bool (m == x)) [
      | inl same ↦ let is : m ≡ x = eqb-true m x same in rw (is, absent)
      | inr other ↦ and_right (p m) (m == x) other
    ]

-- one more member adds its stake
pub weight-more : (charter : Charter) (p : ℕ → Bool) (x : ℕ) → x < length charter.keys → p x ≡ false → weight charter (λ m. p m || (m == x)) ≡ weight charter p + stake_of charter x
weight-more charter p x within absent =
    omega (arith, weight-apart charter p (λ m. m == x) (λ m. not_both p x m absent), weight-one charter x within)

-- what weighs something holds of some member
pub some_of_weight : (charter : Charter) (p : ℕ → Bool) → 0 < weight charter p → Holder charter p
some_of_weight charter p h =
    let some = sum-positive (λ m. cond (p m) (stake_of charter m) 0) 0 (length charter.keys) h in
    record { member = some.place; within = omega (arith, some.high); holds = test_holds (p some.place) (stake_of charter some.place) some.positive }

-- ---- members of a list

-- a member that differs from those of a list isn't among them
none_listed : {X : Type 0} (member_of : X → ℕ) (x : ℕ) (xs : List X) → All (λ other. x ≢ member_of other) xs → list_any (λ other. member_of other == x) xs ≡ false
none_listed member_of x [] apart = refl
none_listed member_of x (y ∷ xs) apart =
    let other : member_of y ≢ x = λ e. All-head (λ z. x ≢ member_of z) y xs apart (sym e) in
    rw (differs (member_of y) x other) (none_listed member_of x xs (All-tail (λ z. x ≢ member_of z) y xs apart))

or_turned : (a b : Bool) → (a || b) ≡ (b || a)
or_turned true true = refl
or_turned true false = refl
or_turned false true = refl
or_turned false false = refl

-- the test of the first of a list, and of the others
turned : (x m : ℕ) (listed : Bool) → ((x == m) || listed) ≡ (listed || (m == x))
turned x m listed = or_turned (x == m) listed ∙ ap (λ same. listed || same) (nat_eq_equiv.symm x m)

-- the members of a list without repetition weigh the sum of their stakes
pub weight-listed : {X : Type 0} (charter : Charter) (member_of : X → ℕ) (xs : List X) → All (λ x. member_of x < length charter.keys) xs → AllPairs (λ one other. member_of one ≢ member_of other) xs
    → weight charter (λ m. list_any (λ x. member_of x == m) xs) ≡ sum_by (λ x. stake_of charter (member_of x)) xs
weight-listed charter member_of [] within apart = weight-none charter
weight-listed charter member_of (x ∷ xs) within apart =
    let rest = weight-listed charter member_of xs (All-tail (λ y. member_of y < length charter.keys) x xs within) (λ i j d before inside. apart (suc i) (suc j) d (omega arith) (omega arith)) in
    let absent = none_listed member_of (member_of x) xs (λ k d inside. apart zero (suc k) d (omega arith) (omega arith)) in
    let more = weight-more charter (λ m. list_any (λ y. member_of y == m) xs) (member_of x) (All-head (λ y. member_of y < length charter.keys) x xs within) absent in
    weight-same charter (λ m. list_any (λ y. member_of y == m) (x ∷ xs)) (λ m. list_any (λ y. member_of y == m) xs || (m == member_of x))
    (λ m inside. turned (member_of x) m (list_any (λ y. member_of y == m) xs))
    ∙ omega (arith, more, rest, sum_by-cons (λ y. stake_of charter (member_of y)) x xs)

-- where each stake is 1 members are counted
pub equal-weight : (charter : Charter) (p : ℕ → Bool) → length charter.stakes ≡ length charter.keys → All (λ stake. stake ≡ 1) charter.stakes
    → weight charter p ≡ count_by p (numbers (length charter.keys))
equal-weight charter p staked ones =
    sum-same (λ m. cond (p m) (stake_of charter m) 0) (λ m. cond (p m) 1 0) 0 (length charter.keys)
    (λ m low high. ap (λ stake. cond (p m) stake 0) (ones m 0 (omega arith)))

-- ---- the first members

-- what those of the first members weigh of whom something holds
abbrev pub weight_below : List ℕ → (ℕ → Bool) → ℕ → ℕ
weight_below stakes p n = sum_by (λ m. cond (p m) (get_or stakes m 0) 0) (range_with_len 0 n)

-- one more
pub weight_below-more : (stakes : List ℕ) (p : ℕ → Bool) (n : ℕ) → weight_below stakes p (n + 1) ≡ weight_below stakes p n + cond (p n) (get_or stakes n 0) 0
weight_below-more stakes p n =
    let term : ℕ → ℕ = λ m. cond (p m) (get_or stakes m 0) 0 in
    sym (sum-map term (range_with_len 0 (n + 1)))
    ∙ sum_by-map-range_with_len_more (λ k. k) term 0 n n (omega arith)
    ∙ ap (λ k. k + term n) (sum-map term (range_with_len 0 n))

-- nobody of them weighs more than the total
pub weight_below-most : (stakes : List ℕ) (p : ℕ → Bool) (n : ℕ) → n ≤ length stakes → weight_below stakes p n ≤ sum stakes
weight_below-most stakes p n within =
    let first = fill_by_all (λ m. get_or stakes m 0) (take n stakes) n 0 (length-take-le n stakes within) (λ k low. get_or-take n stakes k 0 low) in
    let all = ap sum first ∙ sum-map (λ m. get_or stakes m 0) (range_with_len 0 n) in
    let parts = sum-within (λ m. cond (p m) (get_or stakes m 0) 0) (λ m. get_or stakes m 0) 0 n (λ m low high. implied_test (p m) true (get_or stakes m 0) (λ h. refl)) in
    omega (arith, all, parts, sum_by-take-le (λ s. s) stakes n)

-- so the next one's stake has room beside them
pub weight_below-room : (stakes : List ℕ) (p : ℕ → Bool) (n : ℕ) → n < length stakes → weight_below stakes p n + get_or stakes n 0 ≤ sum stakes
weight_below-room stakes p n within =
    let part = sum-within (λ m. cond (p m) (get_or stakes m 0) 0) (λ m. get_or stakes m 0) 0 n (λ m low high. implied_test (p m) true (get_or stakes m 0) (λ h. refl)) in
    omega (arith, part, weight_below-more stakes (λ _. true) n, weight_below-most stakes (λ _. true) (n + 1) (omega (arith, within)))
