-- Sets of members as they are built, one number after the other, and what they weigh.
use Rattle.std.proofs.Common.{◌≡◌, ℕ, ◌+◌, Bool, true, false, length, ap, ◌∙◌, arith}
use Rattle.std.specs.Prelude.{◌==◌, ◌&&◌, ◌||◌, nat_lt}
use Rattle.std.proofs.lemmas.Bool.{lt-ltb}
use Rattle.committee.specs.Charter.{Charter, weight}
use Rattle.committee.specs.Sets.{has}
use Rattle.committee.specs.declared.sets.MemberSet.{MemberSet}
use Rattle.committee.proofs.Weights.{weight-same}

-- a number of whom something holds is added
pub in_more : (test : ℕ → Bool) (so_far m : ℕ) → test so_far ≡ true → ((nat_lt m so_far && test m) || (m == so_far)) ≡ (nat_lt m (so_far + 1) && test m)
in_more test so_far m holds = grind (arith, holds)

-- one of whom it doesn't is left out
pub out_more : (test : ℕ → Bool) (so_far m : ℕ) → test so_far ≡ false → (nat_lt m so_far && test m) ≡ (nat_lt m (so_far + 1) && test m)
out_more test so_far m fails = grind (arith, fails)

-- a set of the members of whom something holds weighs what they weigh
pub weighs : (charter : Charter) (set : MemberSet) (test : ℕ → Bool) → ((m : ℕ) → has set m ≡ (nat_lt m (length charter.keys) && test m)) → weight charter (has set) ≡ weight charter test
weighs charter set test same =
    weight-same charter (has set) test (λ m within. same m ∙ ap (λ b. b && test m) (lt-ltb m (length charter.keys) within))
