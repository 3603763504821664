-- What follows of a committee's stakes, and of those that a file says.
use Rattle.std.proofs.Common.{codes, ◌≡◌, ℕ, ◌*◌, ◌<◌, ◌≤◌, Bool, true, false, List, [], ◌∷◌, length, replicate, nat_le, Option, Some, None, refl, ap, sym, ◌∙◌, inl, inr, arith}
use Rattle.std.proofs.lemmas.Bool.{and_parts, cases_lt, eqb-true, false≢true, le-leb, not-true, not_from_true, and_right}
use Rattle.std.proofs.lemmas.List.{length-replicate}
use Rattle.std.proofs.lemmas.List.Elements.{All-head, All-tail, All-replicate}
use Rattle.std.proofs.lemmas.List.Folds.{list_any_at}
use Rattle.std.proofs.lemmas.List.Sums.{sum_by-cons, sum_by-le}
use Rattle.std.proofs.lemmas.Option.{same_Some}
use Rattle.std.specs.List.{list_any, filter_map}
use Rattle.std.specs.Option.{option_map_or}
use Rattle.std.specs.Prelude.{◌&&◌, ◌==◌, not, sum, get_or, All, option_and_then, if◌then◌else◌}
use Rattle.toml.specs.Data.{Data, Items, Members, get_member, as_integer, as_array}
use Rattle.committee.specs.Charter.{Charter, IsCharter, total_of}
use Rattle.committee.specs.File.{elements, stake_in, is_no_stake, stakes_among, stakes_in}
use Rattle.committee.proofs.ElementLemmas.{length-read, All-read}
use Rattle.committee.proofs.FileLemmas.{integer-bounds}

-- ---- sums of stakes

sum-least : (stakes : List ℕ) → All (λ stake. (1 ≤ stake) × (stake ≤ 1000000)) stakes → length stakes ≤ sum stakes
sum-least [] each = omega arith
sum-least (stake ∷ stakes) each =
    let one = All-head (λ s. (1 ≤ s) × (s ≤ 1000000)) stake stakes each in
    let rest = sum-least stakes (All-tail (λ s. (1 ≤ s) × (s ≤ 1000000)) stake stakes each) in
    omega (arith, sum_by-cons (λ s. s) stake stakes, one.0, rest)

-- the sum of stakes is at least their number, and a million times that at most
pub sum-bounds : (stakes : List ℕ) → All (λ stake. (1 ≤ stake) × (stake ≤ 1000000)) stakes → (length stakes ≤ sum stakes) × (sum stakes ≤ length stakes * 1000000)
sum-bounds stakes each = (sum-least stakes each, sum_by-le (λ s. s) 1000000 stakes (λ k d within. (each k d within).1))

-- the total of a committee is at least the number of its members
pub total-bounds : (charter : Charter) → IsCharter charter → (length charter.keys ≤ total_of charter) × (total_of charter ≤ 31000000)
total-bounds charter is =
    let bounds = sum-bounds charter.stakes is.stakes in
    (omega (arith, bounds.0, is.staked), omega (arith, bounds.1, is.staked, is.size.1))

-- where no stake reaches a size each is below it
pub below-from_none : (size : ℕ) (stakes : List ℕ) → list_any (λ stake. nat_le size stake) stakes ≡ false → All (λ stake. stake < size) stakes
below-from_none size stakes none k d within =
    elim (cases_lt (get_or stakes k d) size) [
      | inl below ↦ below
      | inr reaches ↦ absurd (false≢true (sym none ∙ list_any_at (λ stake. nat_le size stake) stakes k d within (le-leb size (get_or stakes k d) reaches)))
    ]

-- ---- the stakes of a file

-- one for each of so many members, within the limits
pub record AreStakes (members : ℕ) (stakes : List ℕ) : Type 0 where
  pub count : length stakes ≡ members
  pub each : All (λ stake. (1 ≤ stake) × (stake ≤ 1000000)) stakes

chosen : (b : Bool) (list stakes : List ℕ) → (if b then Some list else None) ≡ Some stakes → (b ≡ true) × (list ≡ stakes)
chosen true list stakes h = (refl, same_Some list stakes h)
chosen false list stakes h = absurd cc

among : (members : ℕ) (list : List Data) (stakes : List ℕ) → stakes_among members list ≡ Some stakes → AreStakes members stakes
among members list stakes h =
    let found = chosen ((length list == members) && not (list_any is_no_stake list)) (filter_map stake_in list) stakes h in
    let parts = and_parts (length list == members) (not (list_any is_no_stake list)) found.0 in
    record {
      count = ap length (sym found.1) ∙ length-read stake_in list (not-true _ parts.1) ∙ eqb-true (length list) members parts.0;
      each = rw (← found.1) (All-read stake_in (λ s. (1 ≤ s) × (s ≤ 1000000)) (λ d s is. integer-bounds 1 1000000 (as_integer d) s is) list);
    }

-- an element that is no stake
pub among_none : (members : ℕ) (list : List Data) → list_any is_no_stake list ≡ true → stakes_among members list ≡ None
among_none members list missing = ap (λ b. if b then Some (filter_map stake_in list) else None) (and_right (length list == members) (not (list_any is_no_stake list)) (not_from_true _ missing))

among_items : (members : ℕ) (o : Option Items) (stakes : List ℕ) → option_and_then (λ items. stakes_among members (elements items)) o ≡ Some stakes → AreStakes members stakes
among_items members None stakes h = absurd cc
among_items members (Some items) stakes h = among members (elements items) stakes h

-- whatever the file says, or doesn't
are_stakes : (members : ℕ) (o : Option Data) (stakes : List ℕ)
    → option_map_or (λ value. option_and_then (λ items. stakes_among members (elements items)) (as_array value)) o (Some (replicate members 1)) ≡ Some stakes
    → AreStakes members stakes
are_stakes members None stakes h =
    let same = same_Some (replicate members 1) stakes h in
    rw (← same) (record { count = length-replicate members 1; each = All-replicate (λ s. (1 ≤ s) × (s ≤ 1000000)) members 1 (omega arith) })
are_stakes members (Some value) stakes h = among_items members (as_array value) stakes h

-- what a file says, or doesn't
pub file-stakes : (members : ℕ) (file : Members) (stakes : List ℕ) → stakes_in members file ≡ Some stakes → AreStakes members stakes
file-stakes members file stakes h = are_stakes members (get_member (codes "stakes") file) stakes h

-- ---- where each stake is 1

sum_of_ones : (stakes : List ℕ) → All (λ stake. stake ≡ 1) stakes → sum stakes ≡ length stakes
sum_of_ones [] ones = refl
sum_of_ones (stake ∷ stakes) ones =
    let one = All-head (λ s. s ≡ 1) stake stakes ones in
    let rest = sum_of_ones stakes (All-tail (λ s. s ≡ 1) stake stakes ones) in
    omega (arith, sum_by-cons (λ s. s) stake stakes, one, rest)

-- the total is the number of members
pub total_of_ones : (charter : Charter) → length charter.stakes ≡ length charter.keys → All (λ stake. stake ≡ 1) charter.stakes → total_of charter ≡ length charter.keys
total_of_ones charter staked ones = sum_of_ones charter.stakes ones ∙ staked
