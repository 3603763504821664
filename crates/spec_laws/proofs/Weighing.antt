-- What members weigh: those whose certificates a round has, those whom a header names, and the sizes of a committee.
use Rattle.std.proofs.Common.{◌≡◌, ℕ, zero, suc, ◌+◌, ◌<◌, ◌≤◌, true, cond, List, [], ◌∷◌, map, length, Option, Some, inl, inr, refl, ◌∙◌, arith}
use Rattle.std.specs.Prelude.{◌==◌, filter_map, sum_by, is_some}
use Rattle.std.specs.List.{list_all, range_with_len}
use Rattle.std.proofs.lemmas.List.Sums.{sum_by-cons}
use Rattle.committee.specs.Charter.{Charter, IsCharter, stake_of, weight, total_of, quorum_of}
pub use Rattle.committee.proofs.Weights.{quorum_meets}
use Rattle.committee.proofs.Weights.{weight-most, weight-one}
use Rattle.header.specs.Checks.{is_member, named_weight}
use Rattle.header.proofs.Naming.{named_stakes}
use Rattle.spec_model.specs.Words.{ParentReference}
use Rattle.spec_laws.proofs.Lists.{given_or_none}

-- ---- the sizes of a committee

-- a committee has members
pub size_some : (charter : Charter) → IsCharter charter → 0 < length charter.keys
size_some charter sound = omega (arith, sound.size.0)

pub total_some : (charter : Charter) → IsCharter charter → 0 < total_of charter
total_some charter sound =
    let some = size_some charter sound in
    let one = weight-one charter 0 some in
    let most = weight-most charter (λ m. m == 0) sound.staked in
    let least = (sound.stakes 0 0 (omega (arith, some, sound.staked))).0 in
    omega (arith, one, most, least)

-- all members together are a quorum
pub quorum_within : (charter : Charter) → IsCharter charter → quorum_of charter ≤ total_of charter
quorum_within charter sound = omega (arith, total_some charter sound)

-- one member alone isn't
pub alone_below : (charter : Charter) → IsCharter charter → (own : ℕ) → own < length charter.keys → weight charter (λ m. m == own) < quorum_of charter
alone_below charter sound own member =
    let one = weight-one charter own member in
    let less = sound.shared own 0 (omega (arith, member, sound.staked)) in
    omega (arith, one, less)

-- ---- sums over what is held

-- what those weigh whose things are held
pub made_weigh : {X : Type 0} (charter : Charter) (held : ℕ → Option X) (weigh : X → ℕ) → ((m : ℕ) (x : X) → held m ≡ Some x → m < length charter.keys → weigh x ≡ stake_of charter m)
    → (from count : ℕ) → from + count ≤ length charter.keys
    → sum_by weigh (filter_map held (range_with_len from count)) ≡ sum_by (λ m. cond (is_some (held m)) (stake_of charter m) 0) (range_with_len from count)
made_weigh charter held weigh same from zero within = refl
made_weigh charter held weigh same from (suc count) within =
    let rest = made_weigh charter held weigh same (from + 1) count (omega (arith, within)) in
    let all = sum_by-cons (λ m. cond (is_some (held m)) (stake_of charter m) 0) from (range_with_len (from + 1) count) in
    elim (given_or_none (held from)) [
      | inl found ↦
          let here = same from found.0 found.1 (omega (arith, within)) in
          let all' = rw found.1 at all in
          rw found.1 (sum_by-cons weigh found.0 (filter_map held (range_with_len (from + 1) count)) ∙ omega (arith, here, rest, all'))
      | inr none ↦
          let all' = rw none at all in
          rw none (omega (arith, rest, all'))
    ]

-- what is mapped sums as before
pub sum_mapped : {X Y : Type 0} (f : X → Y) (weigh : Y → ℕ) (xs : List X) → sum_by weigh (map f xs) ≡ sum_by (λ x. weigh (f x)) xs
sum_mapped f weigh [] = refl
sum_mapped f weigh (x ∷ xs) =
    let rest = sum_mapped f weigh xs in
    let one = sum_by-cons weigh (f x) (map f xs) in
    let other = sum_by-cons (λ y. weigh (f y)) x xs in
    omega (arith, rest, one, other)

-- parents that name members weigh these members' stakes
pub named_weigh : (charter : Charter) → length charter.stakes ≡ length charter.keys → (parents : List ParentReference) → list_all (λ p. is_member charter p.author) parents ≡ true
    → sum_by (λ p. named_weight charter p.author) parents ≡ sum_by (λ p. stake_of charter p.author.0) parents
named_weigh charter staked parents members = named_stakes charter (λ (p : ParentReference). p.author) staked parents members
