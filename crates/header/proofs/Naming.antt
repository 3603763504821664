-- Lists that name members: whom they name once, and what these weigh.
use Rattle.std.proofs.Common.{◌≡◌, ◌≢◌, ◌<◌, true, List, [], ◌∷◌, length, refl, sym, ◌∙◌, inl, inr, arith}
use Rattle.std.specs.Prelude.{◌==◌, nat_lt, sum_by, All, AllPairs}
use Rattle.std.specs.List.{list_all, list_any}
use Rattle.std.proofs.lemmas.Bool.{and_parts, ltb-true, cases_lt}
use Rattle.std.proofs.lemmas.Option.{slice_get-get_or, slice_get_past}
use Rattle.std.proofs.lemmas.List.Elements.{All-nil, All-cons, All-weaker}
use Rattle.std.proofs.lemmas.List.Kept.{AllPairs-cons}
use Rattle.std.proofs.lemmas.List.Sums.{sum_by-cons}
use Rattle.committee.specs.Charter.{Charter, stake_of, weight}
use Rattle.committee.proofs.Weights.{weight-listed}
use Rattle.wire.specs.Rising.{rises}
use Rattle.wire.specs.declared.keys.Author.{Author}
use Rattle.header.specs.Checks.{is_member, named_weight}

-- ---- lists that rise

-- those after the first of a list that rises are above it
above_first : {X : Type 0} (name : X → Author) (x : X) (rest : List X) → rises (λ a b. nat_lt (name a).0 (name b).0) (x ∷ rest) ≡ true → All (λ y. (name x).0 < (name y).0) rest
above_first name x [] rise = All-nil (λ y. (name x).0 < (name y).0)
above_first name x (y ∷ rest) rise =
    let parts = and_parts (nat_lt (name x).0 (name y).0) (rises (λ a b. nat_lt (name a).0 (name b).0) (y ∷ rest)) rise in
    let less = ltb-true _ _ parts.0 in
    All-cons (λ z. (name x).0 < (name z).0) y rest less
    (All-weaker (λ z. (name y).0 < (name z).0) (λ z. (name x).0 < (name z).0) (λ z more. omega (arith, less, more)) rest (above_first name y rest parts.1))

rest_rises : {X : Type 0} (name : X → Author) (x : X) (rest : List X) → rises (λ a b. nat_lt (name a).0 (name b).0) (x ∷ rest) ≡ true → rises (λ a b. nat_lt (name a).0 (name b).0) rest ≡ true
rest_rises name x [] rise = refl
rest_rises name x (y ∷ rest) rise = (and_parts (nat_lt (name x).0 (name y).0) (rises (λ a b. nat_lt (name a).0 (name b).0) (y ∷ rest)) rise).1

-- so they name each one once
pub named_once : {X : Type 0} (name : X → Author) (xs : List X) → rises (λ a b. nat_lt (name a).0 (name b).0) xs ≡ true → AllPairs (λ one other. (name one).0 ≢ (name other).0) xs
named_once name [] rise = λ i j d lt within. absurd (omega (arith, within))
named_once name (x ∷ rest) rise =
    AllPairs-cons (λ one other. (name one).0 ≢ (name other).0) x rest
    (All-weaker (λ y. (name x).0 < (name y).0) (λ y. (name x).0 ≢ (name y).0) (λ y less same. omega (arith, less, same)) rest (above_first name x rest rise))
    (named_once name rest (rest_rises name x rest rise))

-- ---- members who are named

pub each_member : {X : Type 0} (charter : Charter) (name : X → Author) (xs : List X) → list_all (λ x. is_member charter (name x)) xs ≡ true → All (λ x. (name x).0 < length charter.keys) xs
each_member charter name [] members = All-nil (λ x. (name x).0 < length charter.keys)
each_member charter name (x ∷ rest) members =
    let parts = and_parts (is_member charter (name x)) (list_all (λ y. is_member charter (name y)) rest) members in
    All-cons (λ y. (name y).0 < length charter.keys) x rest (ltb-true _ _ parts.0) (each_member charter name rest parts.1)

-- they weigh their stakes
pub named_stakes : {X : Type 0} (charter : Charter) (name : X → Author) → length charter.stakes ≡ length charter.keys → (xs : List X) → list_all (λ x. is_member charter (name x)) xs ≡ true
    → sum_by (λ x. named_weight charter (name x)) xs ≡ sum_by (λ x. stake_of charter (name x).0) xs
named_stakes charter name staked [] members = refl
named_stakes charter name staked (x ∷ rest) members =
    let parts = and_parts (is_member charter (name x)) (list_all (λ y. is_member charter (name y)) rest) members in
    let others = named_stakes charter name staked rest parts.1 in
    let within : (name x).0 < length charter.stakes = omega (arith, ltb-true _ _ parts.0, staked) in
    let is = slice_get-get_or charter.stakes (name x).0 0 within in
    let here : named_weight charter (name x) ≡ stake_of charter (name x).0 = rw is refl in
    let one = sum_by-cons (λ y. named_weight charter (name y)) x rest in
    let other = sum_by-cons (λ y. stake_of charter (name y).0) x rest in
    omega (arith, here, others, one, other)

-- and where the list rises they weigh as a set what the tests sum one by one
pub set_weighs : {X : Type 0} (charter : Charter) (name : X → Author) → length charter.stakes ≡ length charter.keys → (xs : List X)
    → list_all (λ x. is_member charter (name x)) xs ≡ true → rises (λ a b. nat_lt (name a).0 (name b).0) xs ≡ true
    → weight charter (λ m. list_any (λ x. (name x).0 == m) xs) ≡ sum_by (λ x. named_weight charter (name x)) xs
set_weighs charter name staked xs members rise =
    weight-listed charter (λ x. (name x).0) xs (each_member charter name xs members) (named_once name xs rise)
    ∙ sym (named_stakes charter name staked xs members)

-- ---- where each stake is 1

-- whoever is named weighs 1, member or not
named_one : (charter : Charter) → All (λ stake. stake ≡ 1) charter.stakes → (author : Author) → named_weight charter author ≡ 1
named_one charter ones author =
    elim (cases_lt author.0 (length charter.stakes)) [
      | inl within ↦ rw (slice_get-get_or charter.stakes author.0 0 within) (ones author.0 0 within)
      | inr past ↦ rw (slice_get_past charter.stakes author.0 past) refl
    ]

-- so they are counted
pub named_counted : {X : Type 0} (charter : Charter) (name : X → Author) → All (λ stake. stake ≡ 1) charter.stakes → (xs : List X) → sum_by (λ x. named_weight charter (name x)) xs ≡ length xs
named_counted charter name ones [] = refl
named_counted charter name ones (x ∷ rest) =
    omega (arith, sum_by-cons (λ y. named_weight charter (name y)) x rest, named_one charter ones (name x), named_counted charter name ones rest)
