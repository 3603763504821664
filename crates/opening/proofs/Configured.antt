-- What holds of the record of a configuration.
use Rattle.std.proofs.Common.{◌≡◌, ℕ, zero, suc, ◌+◌, ◌<◌, ◌≤◌, ◌^◌, Bool, true, false, cond, List, [], ◌∷◌, ◌++◌, length, take, Some, None, refl, sym, ap, ◌∙◌, eqb, inl, inr, arith, append_assoc}
use Rattle.std.specs.Prelude.{◌==◌, All, sum, slice_get}
use Rattle.std.specs.Int.{w16, to_be_bytes, from_be_bytes}
use Rattle.std.specs.List.{list_all, flat_map}
use Rattle.std.proofs.lemmas.Bool.{cases_eq, eq-eqb, ne_eqb, eqb-true, and_parts, and_from}
use Rattle.std.proofs.lemmas.List.{append-nil}
use Rattle.std.proofs.lemmas.List.Elements.{All-nil, All-cons, All-head, All-tail}
use Rattle.std.proofs.lemmas.List.Sums.{sum_by-cons}
use Rattle.std.proofs.lemmas.Nat.{from_be_bytes-to_be_bytes_2}
use Rattle.std.proofs.lemmas.Option.{same_Some}
use Rattle.committee.specs.Charter.{Charter, IsCharter, total_of}
use Rattle.committee.proofs.StakeLemmas.{sum-bounds}
use Rattle.spec_records.specs.Records.{configuration_of, CanReport}
use Rattle.journal.specs.Configuration.{number_of, size_in, has_front, is_configuration, shaped_version}
use Rattle.journal.specs.declared.version.Version.{Version}
use Rattle.journal.specs.declared.version.Version.TheVariants.{First, Second}
use Rattle.opening.specs.Decoded.{has_ones, can_report}
use Rattle.wire.specs.declared.keys.Author.{Author}

-- ---- stakes

-- a stake within its limits
abbrev IsStake : ℕ → Type 0
IsStake stake = (1 ≤ stake) × (stake ≤ 1000000)

-- stakes that sum up to their number are each 1
all_ones : (stakes : List ℕ) → All IsStake stakes → sum stakes ≡ length stakes → list_all (λ stake. stake == 1) stakes ≡ true
all_ones [] each same = refl
all_ones (stake ∷ stakes) each same =
    let total = sum_by-cons (λ s. s) stake stakes in
    let rest = All-tail IsStake stake stakes each in
    let least = (sum-bounds stakes rest).0 in
    let one = (All-head IsStake stake stakes each).0 in
    let first : stake ≡ 1 = omega (arith, total, least, one, same) in
    let others : sum stakes ≡ length stakes = omega (arith, total, least, one, same) in
    and_from (eqb stake 1) (list_all (λ s. s == 1) stakes) (eq-eqb stake 1 first) (all_ones stakes rest others)

-- and such stakes do
ones_sum : (stakes : List ℕ) → list_all (λ stake. stake == 1) stakes ≡ true → sum stakes ≡ length stakes
ones_sum [] ones = refl
ones_sum (stake ∷ stakes) ones =
    let parts = and_parts (eqb stake 1) (list_all (λ s. s == 1) stakes) ones in
    let first = eqb-true stake 1 parts.0 in
    let rest = ones_sum stakes parts.1 in
    omega (arith, sum_by-cons (λ s. s) stake stakes, first, rest)

not_true : (b : Bool) → (b ≡ true → ⊥) → false ≡ b
not_true true none = absurd (none refl)
not_true false none = refl

-- whether the total is the number of members says whether each stake is 1
pub ones_counted : (charter : Charter) (total size : ℕ) → IsCharter charter → total ≡ total_of charter → size ≡ length charter.keys → eqb total size ≡ has_ones charter
ones_counted charter total size sound total_is size_is =
    elim (cases_eq total size) [
      | inl same ↦ eq-eqb total size same ∙ sym (all_ones charter.stakes sound.stakes (sym total_is ∙ same ∙ size_is ∙ sym sound.staked))
      | inr other ↦
          ne_eqb total size other
          ∙ not_true (has_ones charter) (λ ones. other (total_is ∙ ones_sum charter.stakes ones ∙ sound.staked ∙ sym size_is))
    ]

-- ---- versions

pub all_pass : {X : Type 0} (test : X → Bool) (P : X → Type 0) → ((x : X) → P x → test x ≡ true) → (xs : List X) → All P xs → list_all test xs ≡ true
all_pass test P each [] all = refl
all_pass test P each (x ∷ xs) all = and_from (test x) (list_all test xs) (each x (All-head P x xs all)) (all_pass test P each xs (All-tail P x xs all))

pub all_passed : {X : Type 0} (test : X → Bool) (P : X → Type 0) → ((x : X) → test x ≡ true → P x) → (xs : List X) → list_all test xs ≡ true → All P xs
all_passed test P each [] all = All-nil P
all_passed test P each (x ∷ xs) all =
    let parts = and_parts (test x) (list_all test xs) all in
    All-cons P x xs (each x parts.0) (all_passed test P each xs parts.1)

-- whether a version can tell a committee says that it can
pub reports_of : (version : Version) (charter : Charter) → can_report version charter ≡ true → CanReport version charter
reports_of First charter so = all_passed (λ stake. eqb stake 1) (λ stake. stake ≡ 1) (λ stake so. eqb-true stake 1 so) charter.stakes so
reports_of Second charter so = tt

pub decoded_of : (version : Version) (charter : Charter) → CanReport version charter → can_report version charter ≡ true
decoded_of First charter can = all_pass (λ stake. eqb stake 1) (λ stake. stake ≡ 1) (λ stake is. eq-eqb stake 1 is) charter.stakes can
decoded_of Second charter can = refl

-- ---- lists

-- the bytes of one element more
each_suc : {X : Type 0} (f : X → List ℕ) (xs : List X) (m : ℕ) (x : X) → slice_get xs m ≡ Some x → flat_map f (take (suc m) xs) ≡ flat_map f (take m xs) ++ f x
each_suc f [] m x is = absurd (cc)
each_suc f (first ∷ xs) zero x is = append-nil (f first) ∙ ap f (same_Some first x is)
each_suc f (first ∷ xs) (suc m) x is =
    ap (λ (l : List ℕ). f first ++ l) (each_suc f xs m x is) ∙ sym (append_assoc (f first) (flat_map f (take m xs)) (f x))

pub each_more : {X : Type 0} (f : X → List ℕ) (xs : List X) (m : ℕ) (x : X) → slice_get xs m ≡ Some x → flat_map f (take (m + 1) xs) ≡ flat_map f (take m xs) ++ f x
each_more f xs m x is = let same : m + 1 ≡ suc m = omega arith in ap (λ (n : ℕ). flat_map f (take n xs)) same ∙ each_suc f xs m x is

-- ---- the shape

-- the configuration of a committee has it, if its keys have 32 bytes each
shape_is : (version : Version) (charter : Charter) (own : Author) → length charter.keys < 2 ^ 16 → length (configuration_of version charter own) ≡ size_in version (length charter.keys)
    → is_configuration version (configuration_of version charter own) ≡ true
unfolding is_configuration
shape_is version charter own small long =
    let configuration = configuration_of version charter own in
    let members : from_be_bytes w16 (to_be_bytes w16 (length charter.keys)) ≡ length charter.keys = from_be_bytes-to_be_bytes_2 (length charter.keys) small in
    let size = size_in version (from_be_bytes w16 (to_be_bytes w16 (length charter.keys))) in
    and_from (has_front version configuration) (eqb (length configuration) size) (eq-eqb (number_of version) (number_of version) refl)
    (eq-eqb (length configuration) size (long ∙ ap (size_in version) (sym members)))

-- one of the second version has no other
not_first : (charter : Charter) (own : Author) → is_configuration First (configuration_of Second charter own) ≡ false
unfolding is_configuration
not_first charter own = refl

pub shaped_is : (version : Version) (charter : Charter) (own : Author) → length charter.keys < 2 ^ 16 → length (configuration_of version charter own) ≡ size_in version (length charter.keys)
    → shaped_version (configuration_of version charter own) ≡ Some version
shaped_is First charter own small long =
    let configuration = configuration_of First charter own in
    ap (λ (b : Bool). cond b (Some First) (cond (is_configuration Second configuration) (Some Second) None)) (shape_is First charter own small long)
shaped_is Second charter own small long = (λ i. cond (not_first charter own i) (Some First) (cond (shape_is Second charter own small long i) (Some Second) None))
