-- The members of a set, by rising number.
use Rattle.std.proofs.Common.{◌≡◌, ℕ, zero, suc, ◌+◌, ◌<◌, ◌≤◌, Bool, true, false, cond, List, [], ◌∷◌, ◌++◌, get_or, inl, inr, append_assoc, refl, sym, ap, ◌∙◌, arith}
use Rattle.std.specs.Prelude.{◌==◌, ◌&&◌, nat_lt, All, AllPairs, Contains, filter}
use Rattle.std.specs.List.{flat_map, list_any, range_with_len}
use Rattle.std.proofs.lemmas.Grind.{flat_map-append}
use Rattle.std.proofs.lemmas.Bool.{cases_Bool, eqb-true, lt-ltb}
use Rattle.std.proofs.lemmas.List.{append-nil, map-id}
use Rattle.std.proofs.lemmas.List.Elements.{All-filter, filter-append}
use Rattle.std.proofs.lemmas.List.FromFn.{length-range_with_len, get_or-range_with_len, map-range_with_len_more}
use Rattle.std.proofs.lemmas.List.Kept.{AllPairs-filter}
use Rattle.std.proofs.lemmas.Map.Views.{any-filter_same}
use Rattle.committee.specs.Charter.{numbers}
use Rattle.committee.specs.Sets.{has}
use Rattle.committee.specs.declared.members.TheConstants.{MAX_MEMBERS}
use Rattle.committee.specs.declared.sets.MemberSet.{MemberSet}
use Rattle.spec_laws.proofs.Lists.{Contains-nothing, Contains-cases}
use Rattle.checkpoint.specs.Kept.{members_below, members_in}
use Rattle.checkpoint.proofs.Rising.{Before}

from_range : (from count member : ℕ) → from ≤ member → member < from + count → list_any (λ one. one == member) (range_with_len from count) ≡ true
from_range from zero member least most = absurd (omega (arith, least, most))
from_range from (suc count) member least most = elim (cases_Bool (from == member)) [
  | inl here ↦ rw here refl
  | inr other ↦ rw other (from_range (from + 1) count member (grind (arith, least, other)) (omega (arith, most)))
]

-- numbers rise, and lie below their count
numbers_rise : (count : ℕ) → AllPairs (Before (λ one other. nat_lt one other)) (numbers count)
numbers_rise count = λ i j d less within.
    let long = length-range_with_len 0 count in
    let first = get_or-range_with_len 0 count i d (omega (arith, less, within, long)) in
    let second = get_or-range_with_len 0 count j d (omega (arith, within, long)) in
    lt-ltb (get_or (numbers count) i d) (get_or (numbers count) j d) (omega (arith, less, first, second))

numbers_below : (count : ℕ) → All (λ one. one < count) (numbers count)
numbers_below count = λ i d within.
    let long = length-range_with_len 0 count in
    let is = get_or-range_with_len 0 count i d (omega (arith, within, long)) in
    omega (arith, is, within, long)

pub numbers_least : (list : List ℕ) → All (λ one. 0 ≤ one) list
numbers_least list = λ i d within. omega arith

-- a member is among them where it is in the set
pub in_members : (set : MemberSet) (member : ℕ) → (has set member ≡ true → member < MAX_MEMBERS) → list_any (λ one. one == member) (members_in set) ≡ has set member
unfolding members_below
in_members set member within =
    any-filter_same (λ one. one == member) (has set) (has set member) (λ k is. ap (has set) (eqb-true k member is)) (numbers MAX_MEMBERS)
    ∙ by (has set member) refl
  where
    by : (b : Bool) → has set member ≡ b → (b && list_any (λ one. one == member) (numbers MAX_MEMBERS)) ≡ b
    by false is = refl
    by true is = from_range 0 MAX_MEMBERS member (omega arith) (within is)

pub members_rise : (set : MemberSet) → AllPairs (Before (λ one other. nat_lt one other)) (members_in set)
unfolding members_below
members_rise set = AllPairs-filter (Before (λ one other. nat_lt one other)) (has set) (numbers MAX_MEMBERS) (numbers_rise MAX_MEMBERS)

pub members_under : (set : MemberSet) → All (λ one. one < MAX_MEMBERS) (members_in set)
unfolding members_below
members_under set = All-filter (has set) (λ one. one < MAX_MEMBERS) (numbers MAX_MEMBERS) (numbers_below MAX_MEMBERS)

members_of : (set : MemberSet) (list : List ℕ) (member : ℕ) → Contains (filter (has set) list) member → has set member ≡ true
members_of set [] member inside = absurd (Contains-nothing member inside)
members_of set (one ∷ list) member inside = elim (cases_Bool (has set one)) [
  | inl so ↦ elim (Contains-cases one (filter (has set) list) member (rw so at inside)) [
    | inl same ↦ ap (has set) (sym same) ∙ so
    | inr later ↦ members_of set list member later
  ]
  | inr off ↦ members_of set list member (rw off at inside)
]

-- who is among them is in the set
pub members_have : (set : MemberSet) (member : ℕ) → Contains (members_in set) member → has set member ≡ true
unfolding members_below
members_have set member inside = members_of set (numbers MAX_MEMBERS) member inside

-- ---- one by one

numbers_more : (count : ℕ) → numbers (count + 1) ≡ numbers count ++ count ∷ []
numbers_more count =
    sym (map-id (numbers (count + 1))) ∙ map-range_with_len_more (λ k. k) 0 count count (omega arith) ∙ ap (λ ms. ms ++ count ∷ []) (map-id (numbers count))

below_more : (set : MemberSet) (count : ℕ) → members_below set (count + 1) ≡ members_below set count ++ cond (has set count) (count ∷ []) []
unfolding members_below
below_more set count = ap (filter (has set)) (numbers_more count) ∙ filter-append (has set) (numbers count) (count ∷ [])

pub none_below : (set : MemberSet) → members_below set 0 ≡ []
unfolding members_below
none_below set = refl

pub one_below : (set : MemberSet) (count : ℕ) → has set count ≡ true → members_below set (count + 1) ≡ members_below set count ++ count ∷ []
one_below set count is = below_more set count ∙ ap (λ b. members_below set count ++ cond b (count ∷ []) []) is

pub same_below : (set : MemberSet) (count : ℕ) → has set count ≡ false → members_below set (count + 1) ≡ members_below set count
same_below set count is = below_more set count ∙ ap (λ b. members_below set count ++ cond b (count ∷ []) []) is ∙ append-nil (members_below set count)

-- ---- their bytes

pub bytes_more : (bytes_of : ℕ → List ℕ) (set : MemberSet) (count : ℕ) (start before : List ℕ) → has set count ≡ true
    → before ≡ start ++ flat_map bytes_of (members_below set count) → before ++ bytes_of count ≡ start ++ flat_map bytes_of (members_below set (count + 1))
bytes_more bytes_of set count start before is put =
    ap (λ l. l ++ bytes_of count) put ∙ append_assoc start (flat_map bytes_of (members_below set count)) (bytes_of count)
    ∙ ap (λ l. start ++ l) (sym (ap (flat_map bytes_of) (one_below set count is) ∙ flat_map-append bytes_of (members_below set count) (count ∷ [])
    ∙ ap (λ l. flat_map bytes_of (members_below set count) ++ l) (append-nil (bytes_of count))))
