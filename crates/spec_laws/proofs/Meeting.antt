-- Every certificate far enough above a committed leader reaches it.
use Rattle.std.proofs.Common.{◌≡◌, ℕ, zero, suc, ◌+◌, ◌-◌, ◌<◌, ◌≤◌, Bool, true, List, [], ◌∷◌, map, length, Some, inl, inr, refl, ap, sym, ◌∙◌, subst, arith}
use Rattle.std.specs.Prelude.{Contains, filter, nat_eq, nat_le, ◌==◌, ◌&&◌, false}
use Rattle.std.specs.List.{list_any, range_with_len}
use Rattle.std.specs.Option.{option_map_or}
use Rattle.std.proofs.lemmas.Bool.{cases_Bool, and_parts, and_from, eqb-true, leb-true, le-leb}
use Rattle.std.proofs.lemmas.Option.{same_Some}
use Rattle.committee.specs.Charter.{Charter, IsCharter, numbers, weight, quorum_of, support_of}
use Rattle.committee.proofs.Weights.{some_of_weight}
use Rattle.spec_model.specs.Slots.{Slots, round_of, is_named, is_parent, has_path, reaches}
use Rattle.spec_model.specs.Words.{Certificate, ParentReference}
use Rattle.spec_laws.proofs.Growing.{AreInPlace, IsIn, is_in}
use Rattle.spec_laws.proofs.Lists.{given_or_none, Contains-nothing, Contains-cases, Contains-first, Contains-later, Contains-made, Contains-makes}
use Rattle.spec_laws.proofs.Votes.{slot_is, of_its_slot}
use Rattle.spec_laws.proofs.Weighing.{quorum_meets}

-- ---- tests of lists

pub any_from : {X : Type 0} (test : X → Bool) (xs : List X) (x : X) → Contains xs x → test x ≡ true → list_any test xs ≡ true
any_from test [] x inside passes = absurd (Contains-nothing x inside)
any_from test (y ∷ xs) x inside passes =
    elim (Contains-cases y xs x inside) [
      | inl same ↦ let here : test y ≡ true = ap test same ∙ passes in rw here refl
      | inr rest ↦ let later = any_from test xs x rest passes in elim (cases_Bool (test y)) [ inl here ↦ rw here refl | inr other ↦ rw other later ]
    ]

pub any_to : {X : Type 0} (test : X → Bool) (xs : List X) → list_any test xs ≡ true → (x : X) × Contains xs x × (test x ≡ true)
any_to test [] passes = absurd cc
any_to test (y ∷ xs) passes =
    elim (cases_Bool (test y)) [
      | inl here ↦ (y, Contains-first xs y, here)
      | inr other ↦ let later = rw other at passes in let found = any_to test xs later in (found.0, Contains-later y xs found.0 found.1, found.2)
    ]

-- an element of a list that was picked passes, and was there before
pub picked_was : {X : Type 0} (test : X → Bool) (xs : List X) (x : X) → Contains (filter test xs) x → Contains xs x × (test x ≡ true)
picked_was test [] x inside = absurd (Contains-nothing x inside)
picked_was test (y ∷ xs) x inside =
    elim (cases_Bool (test y)) [
      | inl here ↦
          let inside' = rw here at inside in
          elim (Contains-cases y (filter test xs) x inside') [
            | inl same ↦ (subst (λ z. Contains (y ∷ xs) z) same (Contains-first xs y), ap test (sym same) ∙ here)
            | inr rest ↦ let was = picked_was test xs x rest in (Contains-later y xs x was.0, was.1)
          ]
      | inr other ↦ let inside' = rw other at inside in let was = picked_was test xs x inside' in (Contains-later y xs x was.0, was.1)
    ]

-- what an element is mapped to comes from one
pub mapped_from : {X Y : Type 0} (f : X → Y) (xs : List X) (y : Y) → Contains (map f xs) y → (x : X) × Contains xs x × (f x ≡ y)
mapped_from f [] y inside = absurd (Contains-nothing y inside)
mapped_from f (x ∷ xs) y inside =
    elim (Contains-cases (f x) (map f xs) y inside) [
      | inl same ↦ (x, Contains-first xs x, same)
      | inr rest ↦ let found = mapped_from f xs y rest in (found.0, Contains-later x xs found.0 found.1, found.2)
    ]

-- each of n numbers is among them
pub number_in : (from count k : ℕ) → from ≤ k → k < from + count → Contains (range_with_len from count) k
number_in from zero k least most = absurd (omega (arith, least, most))
number_in from (suc count) k least most =
    elim (cases_Bool (nat_eq from k)) [
      | inl is ↦ subst (λ z. Contains (from ∷ range_with_len (from + 1) count) z) (eqb-true from k is) (Contains-first (range_with_len (from + 1) count) from)
      | inr other ↦ Contains-later from (range_with_len (from + 1) count) k (number_in (from + 1) count k (grind (arith, least, other)) (omega (arith, most)))
    ]

-- a certificate that a slot of a member holds is among those of its round
in_round : (n : ℕ) (slots : Slots) (round author : ℕ) (c : Certificate) → author < n → slots round author ≡ Some c → Contains (round_of n slots round) c
in_round n slots round author c member held = Contains-makes (slots round) (numbers n) author c (number_in 0 n author (omega arith) (omega (arith, member))) held

pub same_number : (k : ℕ) → (k == k) ≡ true
same_number k = grind arith

equal_numbers : (one other : ℕ) → one ≡ other → (one == other) ≡ true
equal_numbers one other same = grind (arith, same)

-- ---- paths

-- a path from a parent is one from its child, with one step more
path_above : (n : ℕ) (slots : Slots) → AreInPlace slots → (steps : ℕ) (child parent end : Certificate) → IsIn slots child → child.header.author.0 < n → IsIn slots parent → IsIn slots end
    → is_parent parent child ≡ true → has_path n slots steps parent end ≡ true → has_path n slots (suc steps) child end ≡ true
path_above n slots placed zero child parent end held member held_parent held_end names path =
    let place = slot_is parent.header.round parent.header.author.0 end.header path in
    let same : parent ≡ end =
    same_Some parent end (sym held_parent ∙ ap (λ r. slots r parent.header.author.0) (sym place.0) ∙ ap (slots end.header.round) (sym place.1) ∙ held_end) in
    let named : is_parent end child ≡ true = ap (λ p. is_parent p child) (sym same) ∙ names in
    let above = eqb-true _ _ (and_parts (end.header.round + 1 == child.header.round) (list_any (is_named end) child.header.parents) named).0 in
    let there : slots (end.header.round + 1) child.header.author.0 ≡ Some child = ap (λ r. slots r child.header.author.0) above ∙ held in
    any_from (λ c. has_path n slots 0 child c && is_parent end c) (round_of n slots (end.header.round + 1)) child
    (in_round n slots (end.header.round + 1) child.header.author.0 child member there)
    (and_from _ _ (of_its_slot child.header) named)
path_above n slots placed (suc steps) child parent end held member held_parent held_end names path =
    let found = any_to (λ c. has_path n slots steps parent c && is_parent end c) (round_of n slots (end.header.round + 1)) path in
    let parts = and_parts (has_path n slots steps parent found.0) (is_parent end found.0) found.2 in
    let made = Contains-made (slots (end.header.round + 1)) (numbers n) found.0 found.1 in
    let longer = path_above n slots placed steps child parent found.0 held member held_parent (is_in slots (end.header.round + 1) made.0 found.0 placed made.2) names parts.0 in
    any_from (λ c. has_path n slots (suc steps) child c && is_parent end c) (round_of n slots (end.header.round + 1)) found.0 found.1 (and_from _ _ longer parts.1)

-- ---- quorums

-- a member is the author of what a certificate's header names as a parent
abbrev pub is_named_by : Certificate → ℕ → Bool
is_named_by c member = list_any (λ p. p.author.0 == member) c.header.parents

-- the certificates of a round above a base have members as authors, and name a quorum of others, all of which are held
pub record IsRooted (charter : Charter) (slots : Slots) (round author : ℕ) (c : Certificate) : Type 0 where
  pub member : author < length charter.keys
  pub quorum : quorum_of charter ≤ weight charter (is_named_by c)
  pub held : (p : ParentReference) → Contains c.header.parents p → (parent : Certificate) × (slots (round - 1) p.author.0 ≡ Some parent) × (is_named parent p ≡ true)

-- a member supports a certificate in slots
abbrev pub supports_in : Slots → Certificate → ℕ → Bool
supports_in slots c member = option_map_or (is_parent c) (slots (c.header.round + 1) member) false

-- a certificate has support in slots
abbrev pub is_supported : Charter → Slots → Certificate → Bool
is_supported charter slots c = nat_le (support_of charter) (weight charter (supports_in slots c))

-- a certificate two rounds above a leader with support has a parent that supports it
meets : (charter : Charter) → IsCharter charter → (slots : Slots) → AreInPlace slots → (leader c : Certificate) → is_supported charter slots leader ≡ true
    → c.header.round ≡ leader.header.round + 2 → IsRooted charter slots c.header.round c.header.author.0 c
    → (middle : Certificate) × IsIn slots middle × (middle.header.author.0 < length charter.keys) × (is_parent leader middle ≡ true) × (is_parent middle c ≡ true)
meets charter sound slots placed leader c supported above rooted =
    let round = leader.header.round + 1 in
    let some = quorum_meets charter (is_named_by c) (supports_in slots leader) sound rooted.quorum (leb-true _ _ supported) in
    let both = some_of_weight charter (λ m. is_named_by c m && supports_in slots leader m) some in
    let parts = and_parts (is_named_by c both.member) (supports_in slots leader both.member) both.holds in
    let parent = any_to (λ p. p.author.0 == both.member) c.header.parents parts.0 in
    let by : parent.0.author.0 ≡ both.member = eqb-true parent.0.author.0 both.member parent.2 in
    elim (given_or_none (slots round both.member)) [
      | inl middle ↦
          let supporting = rw middle.1 at parts.1 in
          let place = slot_is round both.member middle.0.header (placed round both.member middle.0 middle.1) in
          let held = rooted.held parent.0 parent.1 in
          let below : c.header.round - 1 ≡ round = omega (arith, above) in
          let same : held.0 ≡ middle.0 = same_Some held.0 middle.0 (sym held.1 ∙ ap (λ r. slots r parent.0.author.0) below ∙ ap (slots round) by ∙ middle.1) in
          let names : list_any (is_named middle.0) c.header.parents ≡ true =
          any_from (is_named middle.0) c.header.parents parent.0 parent.1 (ap (λ d. is_named d parent.0) (sym same) ∙ held.2) in
          let next : middle.0.header.round + 1 ≡ c.header.round = omega (arith, above, place.0) in (
            middle.0,
            is_in slots round both.member middle.0 placed middle.1,
            subst (λ a. a < length charter.keys) (sym place.1) both.within,
            supporting,
            and_from (middle.0.header.round + 1 == c.header.round) (list_any (is_named middle.0) c.header.parents) (equal_numbers (middle.0.header.round + 1) c.header.round next) names,
          )
      | inr none ↦ let nothing = rw none at parts.1 in absurd cc
    ]

-- a rooted certificate names some parent
names_some : (charter : Charter) (slots : Slots) (round author : ℕ) (c : Certificate) → IsRooted charter slots round author c → (p : ParentReference) × Contains c.header.parents p
names_some charter slots round author c rooted =
    let some = some_of_weight charter (is_named_by c) (omega (arith, rooted.quorum)) in
    let named = any_to (λ p. p.author.0 == some.member) c.header.parents some.holds in
    (named.0, named.1)

-- ---- every certificate above reaches the leader

-- slots above a round are rooted
abbrev pub AreRooted : Charter → Slots → ℕ → Type 0
AreRooted charter slots base = (round author : ℕ) (c : Certificate) → slots round author ≡ Some c → base < round → IsRooted charter slots round author c

path_to_leader : (charter : Charter) → IsCharter charter → (slots : Slots) → AreInPlace slots → (leader : Certificate) → IsIn slots leader
    → leader.header.author.0 < length charter.keys → is_supported charter slots leader ≡ true
    → AreRooted charter slots (leader.header.round + 1) → (above : ℕ) (c : Certificate) → IsIn slots c → c.header.round
    ≡ leader.header.round + (2 + above) → has_path (length charter.keys) slots (2 + above) c leader ≡ true
path_to_leader charter sound slots placed leader held member supported rooted zero c in_slot round =
    let n = length charter.keys in
    let root = rooted c.header.round c.header.author.0 c in_slot (omega (arith, round)) in
    let middle = meets charter sound slots placed leader c supported (omega (arith, round)) root in
    let start : has_path n slots 0 leader leader ≡ true = of_its_slot leader.header in
    let one = path_above n slots placed 0 middle.0 leader leader middle.1 middle.2 held held middle.3 start in
    path_above n slots placed 1 c middle.0 leader in_slot root.member middle.1 held middle.4 one
path_to_leader charter sound slots placed leader held_leader member supported rooted (suc above) c in_slot round =
    let n = length charter.keys in
    let root = rooted c.header.round c.header.author.0 c in_slot (omega (arith, round)) in
    let p = names_some charter slots c.header.round c.header.author.0 c root in
    let held = root.held p.0 p.1 in
    let parent = held.0 in
    let place = slot_is (c.header.round - 1) p.0.author.0 parent.header (placed (c.header.round - 1) p.0.author.0 parent held.1) in
    let in_parent = is_in slots (c.header.round - 1) p.0.author.0 parent placed held.1 in
    let lower : parent.header.round ≡ leader.header.round + (2 + above) = omega (arith, place.0, round) in
    let next : parent.header.round + 1 ≡ c.header.round = omega (arith, place.0, round) in
    let names : is_parent parent c ≡ true = and_from _ _ (equal_numbers (parent.header.round + 1) c.header.round next)
    (any_from (is_named parent) c.header.parents p.0 p.1 held.2) in
    let path = path_to_leader charter sound slots placed leader held_leader member supported rooted above parent in_parent lower in
    let longer = path_above n slots placed (2 + above) c parent leader in_slot root.member in_parent held_leader names path in
    let same : suc (2 + above) ≡ 2 + suc above = omega arith in
    subst (λ k. has_path n slots k c leader ≡ true) same longer

-- so it does
pub reaches_leader : (charter : Charter) → IsCharter charter → (slots : Slots) → AreInPlace slots → (leader : Certificate) → IsIn slots leader
    → leader.header.author.0 < length charter.keys → is_supported charter slots leader ≡ true
    → AreRooted charter slots (leader.header.round + 1) → (c : Certificate) → IsIn slots c → leader.header.round + 2 ≤ c.header.round → reaches (length charter.keys) slots c leader ≡ true
reaches_leader charter sound slots placed leader held member supported rooted c in_slot above =
    let steps : c.header.round - leader.header.round ≡ 2 + (c.header.round - (leader.header.round + 2)) = omega (arith, above) in
    let path = path_to_leader charter sound slots placed leader held member supported rooted (c.header.round - (leader.header.round + 2)) c in_slot (omega (arith, above)) in
    and_from _ _ (le-leb _ _ (omega (arith, above))) (subst (λ k. has_path (length charter.keys) slots k c leader ≡ true) (sym steps) path)
