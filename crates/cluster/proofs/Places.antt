-- The member of a number, and where it stands.
use Rattle.std.proofs.Common.{◌≡◌, ◌≢◌, ℕ, ◌<◌, Bool, true, false, cond, inl, inr, List, [], ◌∷◌, length, map, set, refl, sym, ap, ◌∙◌, subst}
use Rattle.std.specs.Prelude.{Option, Some, None, Result, Err, is_some, slice_get, get_or, nat_lt, ◌==◌, ◌↔◌}
use Rattle.std.specs.List.{find, position, position_or_len}
use Rattle.std.specs.Option.{option_map_or}
use Rattle.std.proofs.lemmas.Bool.{cases_Bool, true≢false, ltb-true, lt-ltb, cases_lt, eqb-true}
use Rattle.std.proofs.lemmas.List.{map-set, set-get_or}
use Rattle.std.proofs.lemmas.List.Folds.{find_at, find-set, find_past}
use Rattle.std.proofs.lemmas.Option.{slice_get_past, slice_get-get_or, get_or_from_slice_get}
use Rattle.desk.specs.Desk as desk
use Rattle.spec_model.specs.Words.{Author}
use Rattle.cluster.specs.Cluster.{named, at, has_member, IsThere, IsAsked}
use Rattle.cluster.specs.Member.{MemberView}
use Rattle.cluster.specs.declared.error.ClusterError.{ClusterError}
use Rattle.cluster.specs.declared.error.ClusterError.TheVariants.{NoSuchNode}
use Rattle.cluster.specs.declared.moves.Applied.{Applied}

-- where the first one stands that passes
record IsFirst {X : Type 0} (p : X → Bool) (xs : List X) (place : ℕ) : Type 0 where
  pub is : place ≡ position_or_len p xs
  pub within : place < length xs

first_of : {X : Type 0} (p : X → Bool) (xs : List X) (place : ℕ) → position p xs ≡ Some place → IsFirst p xs place
first_of {X} p xs place is = by_test (nat_lt (position_or_len p xs) (length xs)) refl
  where
    by_test : (b : Bool) → nat_lt (position_or_len p xs) (length xs) ≡ b → IsFirst p xs place
    by_test true so =
        let same : Some (position_or_len p xs) ≡ Some place = sym (ap (λ (b : Bool). cond b (Some (position_or_len p xs)) None) so) ∙ is in
        let place_is : place ≡ position_or_len p xs = cc in
        record { is = place_is; within = subst (λ (n : ℕ). n < length xs) (sym place_is) (ltb-true (position_or_len p xs) (length xs) so) }
    by_test false so = let none : ◌≡◌ {A = Option ℕ} None (Some place) = sym (ap (λ (b : Bool). cond b (Some (position_or_len p xs)) None) so) ∙ is in absurd cc

-- it is what is found
pub found_at : {X : Type 0} (p : X → Bool) (xs : List X) (place : ℕ) → position p xs ≡ Some place → find p xs ≡ slice_get xs place
found_at p xs place is = find_at p xs ∙ ap (slice_get xs) (sym (first_of p xs place is).is)

-- and where none passes nothing is found
pub none_found : {X : Type 0} (p : X → Bool) (xs : List X) → position p xs ≡ None → find p xs ≡ None
none_found {X} p xs is = elim (cases_lt (position_or_len p xs) (length xs)) [
  | inl less ↦ (let some : position p xs ≡ Some (position_or_len p xs) = ap (λ (b : Bool). cond b (Some (position_or_len p xs)) None)
      (lt-ltb (position_or_len p xs) (length xs) less) in let bad : ◌≡◌ {A = Option ℕ} None (Some (position_or_len p xs)) = sym is ∙ some in
      absurd cc)
  | inr past ↦ find_at p xs ∙ slice_get_past xs (position_or_len p xs) past
]

-- what is found passes
pub found_passes : {X : Type 0} (p : X → Bool) (xs : List X) (x : X) → find p xs ≡ Some x → p x ≡ true
found_passes p [] x is = absurd cc
found_passes {X} p (y ∷ xs) x is = elim (cases_Bool (p y)) [
  | inl so ↦ (let same : Some y ≡ Some x = sym (ap (λ (b : Bool). cond b (Some y) (find p xs)) so) ∙ is in let one : y ≡ x = cc in subst (λ (z : X). p z ≡ true) one so)
  | inr off ↦ found_passes p xs x (sym (ap (λ (b : Bool). cond b (Some y) (find p xs)) off) ∙ is)
]

-- and what stands there
pub there_of : {X : Type 0} (p : X → Bool) (xs : List X) (place : ℕ) (x : X) → position p xs ≡ Some place → x ≡ get_or xs place x → slice_get xs place ≡ Some x
there_of p xs place x first is = slice_get-get_or xs place x (first_of p xs place first).within ∙ ap (λ y. Some y) (sym is)

-- a member that is there has a desk
pub record IsUp {S D : Type 0} (members : List (MemberView S D)) (number : Author) : Type 0 where
  pub one : MemberView S D
  pub found : at members number ≡ Some one
  pub desk : desk.DeskView S D
  pub has : one.desk ≡ Some desk

pub there_some : {S D : Type 0} (members : List (MemberView S D)) (number : Author) → has_member members number ≡ true → IsUp members number
there_some {S} {D} members number is = by_found (at members number) refl is
  where
    by_desk : (one : MemberView S D) (d : Option (desk.DeskView S D)) → at members number ≡ Some one → one.desk ≡ d → is_some d ≡ true → IsUp members number
    by_desk one None found same so = absurd cc
    by_desk one (Some x) found same so = record { one = one; found = found; desk = x; has = same }

    by_found : (o : Option (MemberView S D)) → at members number ≡ o → option_map_or (λ member. is_some member.desk) o false ≡ true → IsUp members number
    by_found None found so = absurd cc
    by_found (Some one) found so = by_desk one one.desk found refl so

-- ---- a member that becomes another one of the same settings

module _ {S D : Type 0} (members : List (MemberView S D)) (number : Author) (place : ℕ) (one later : MemberView S D)
    (first : position (λ member. named number member) members ≡ Some place) (there : slice_get members place ≡ Some one)
    (setting : later.setting ≡ one.setting) where
  found : at members number ≡ Some one
  found = found_at (λ member. named number member) members place first ∙ there

  is_named : named number one ≡ true
  is_named = found_passes (λ member. named number member) members one found

  -- the others stay
  pub others_stay : (other : Author) → other ≢ number → at (set members place later) other ≡ at members other
  others_stay other differs =
      let not_it : named other one ≡ false = elim (cases_Bool (named other one)) [
        | inl so ↦ absurd (differs (same_number (eqb-true one.setting.own.0 other.0 so) (eqb-true one.setting.own.0 number.0 is_named)))
        | inr off ↦ off
      ] in
      find_past (λ member. named other member) members place later one (ap (λ m. named other m) (get_or_from_slice_get members place one one there)
      ∙ not_it) (ap (λ s. s.own.0 == other.0) setting ∙ not_it)
    where
      same_number : one.setting.own.0 ≡ other.0 → one.setting.own.0 ≡ number.0 → other ≡ number
      same_number a b = let same : other.0 ≡ number.0 = sym a ∙ b in (λ i. record { 0 = same i })

  -- all settings stay
  pub settings_stay : map (λ member. member.setting) (set members place later) ≡ map (λ member. member.setting) members
  settings_stay =
      map-set (λ (m : MemberView S D). m.setting) members place later
      ∙ ap (set (map (λ (m : MemberView S D). m.setting) members) place) (setting ∙ ap (λ (m : MemberView S D). m.setting) (sym (get_or_from_slice_get members place one one there)))
      ∙ sym (map-set (λ (m : MemberView S D). m.setting) members place (get_or members place one))
      ∙ ap (map (λ (m : MemberView S D). m.setting)) (set-get_or members place one)

  -- it was asked
  pub becomes_one : (Becomes : MemberView S D → MemberView S D → Type 0) (answer : Result Applied ClusterError) → Becomes one later → IsAsked Becomes number members (set members place later) answer
  becomes_one Becomes answer becomes =
      let at_place = first_of (λ member. named number member) members place first in
      record {
        there = λ other is. (
          later,
          find-set (λ member. named number member) members place later at_place.is at_place.within (ap (λ s. s.own.0 == number.0) setting ∙ is_named),
          subst (λ (m : MemberView S D). Becomes m later) (same_one one other (sym found ∙ is)) becomes,
        );
        nobody = λ none. absurd (some_none (sym found ∙ none));
        others = others_stay;
        settings = settings_stay;
      }
    where
      same_one : (x y : MemberView S D) → ◌≡◌ {A = Option (MemberView S D)} (Some x) (Some y) → x ≡ y
      same_one x y same = cc

      some_none : ◌≡◌ {A = Option (MemberView S D)} (Some one) None → ⊥
      some_none same = cc

  -- it is there unless it is gone
  pub gone_where : (one.desk ≡ None) ↔ (IsThere members number → ⊥)
  gone_where = (λ gone is. absurd (true≢false (sym is ∙ there_is ∙ ap is_some gone)), λ never. by_desk one.desk refl never)
    where
      there_is : has_member members number ≡ is_some one.desk
      there_is = ap (λ found. option_map_or (λ member. is_some member.desk) found false) found

      by_desk : (d : Option (desk.DeskView S D)) → one.desk ≡ d → (IsThere members number → ⊥) → one.desk ≡ None
      by_desk None is never = is
      by_desk (Some x) is never = absurd (never (there_is ∙ ap is_some is))

-- no member of a number is there where there is none
pub none_there : {S D : Type 0} (members : List (MemberView S D)) (number : Author) → position (λ member. named number member) members ≡ None → IsThere members number → ⊥
none_there members number none is =
    true≢false (sym is ∙ ap (λ found. option_map_or (λ member. is_some member.desk) found false) (none_found (λ member. named number member) members none))

-- members of whom none became another one
pub same_asked : {S D : Type 0} (members : List (MemberView S D)) (number : Author) (Becomes : MemberView S D → MemberView S D → Type 0) (answer : Result Applied ClusterError)
    → ((one : MemberView S D) → at members number ≡ Some one → Becomes one one) → (at members number ≡ None → answer ≡ Err NoSuchNode) → IsAsked Becomes number members members answer
same_asked members number Becomes answer becomes none = record {
  there = λ one is. (one, is, becomes one is);
  nobody = λ so. (none so, refl);
  others = λ other differs. refl;
  settings = refl;
}

-- one that isn't there has no desk
pub desk_none : {S D : Type 0} (members : List (MemberView S D)) (number : Author) (one : MemberView S D) → at members number ≡ Some one → (IsThere members number → ⊥) → one.desk ≡ None
desk_none {S} {D} members number one found never = by_desk one.desk refl
  where
    by_desk : (d : Option (desk.DeskView S D)) → one.desk ≡ d → one.desk ≡ None
    by_desk None is = is
    by_desk (Some x) is = absurd (never (ap (λ o. option_map_or (λ member. is_some member.desk) o false) found ∙ ap is_some is))
