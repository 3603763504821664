-- Sets of members as they are built, one number after the other, and what they weigh.
use Rattle.std.proofs.Common.{◌≡◌, ℕ, ◌+◌, Bool, true, false, length, ap, ◌∙◌, arith}
use Rattle.std.specs.Prelude.{◌==◌, ◌&&◌, ◌||◌, nat_lt}
use Rattle.std.proofs.lemmas.Bool.{lt-ltb}
use Rattle.committee.specs.Charter.{Charter, weight}
use Rattle.committee.specs.Sets.{has}
use Rattle.committee.specs.declared.sets.MemberSet.{MemberSet}
use Rattle.committee.proofs.Weights.{weight-same}

-- a number of whom something holds is added
pub in_more : (test : ℕ → Bool) (so_far m : ℕ) → test so_far ≡ true → ((nat_lt m so_far && test m) || (m == so_far)) ≡ (nat_lt m (so_far + 1) && test m)
in_more test so_far m holds = grind (arith, holds)

-- one of whom it doesn't is left out
pub out_more : (test : ℕ → Bool) (so_far m : ℕ) → test so_far ≡ false → (nat_lt m so_far && test m) ≡ (nat_lt m (so_far + 1) && test m)
out_more test so_far m fails = grind (arith, fails)

-- a set of the members of whom something holds weighs what they weigh
pub weighs : (charter : Charter) (set : MemberSet) (test : ℕ → Bool) → ((m : ℕ) → has set m ≡ (nat_lt m (length charter.keys) && test m)) → weight charter (has set) ≡ weight charter test
weighs charter set test same =
    weight-same charter (has set) test (λ m within. same m ∙ ap (λ b. b && test m) (lt-ltb m (length charter.keys) within))

-- a member who passes a test is put into the set of those so far who do, and one who doesn't isn't
pub with_member : (test : ℕ → Bool) (voter : ℕ) (before set found : MemberSet) → ((m : ℕ) → has before m ≡ (nat_lt m voter && test m)) → ((m : ℕ) → has set m ≡ (has before m || (m == voter)))
    → found ≡ set → test voter ≡ true → (m : ℕ) → has found m ≡ (nat_lt m (voter + 1) && test m)
with_member test voter before set found so_far put is holds m =
    ap (λ (one : MemberSet). has one m) is ∙ put m ∙ ap (λ (b : Bool). b || (m == voter)) (so_far m) ∙ in_more test voter m holds

pub without_member : (test : ℕ → Bool) (voter : ℕ) (before found : MemberSet) → ((m : ℕ) → has before m ≡ (nat_lt m voter && test m)) → found ≡ before → test voter ≡ false
    → (m : ℕ) → has found m ≡ (nat_lt m (voter + 1) && test m)
without_member test voter before found so_far is fails m = ap (λ (one : MemberSet). has one m) is ∙ so_far m ∙ out_more test voter m fails
