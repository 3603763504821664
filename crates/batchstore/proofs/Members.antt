-- Sets of members with one more.
use Rattle.std.proofs.Common.{◌≡◌, ◌≢◌, ℕ, ◌<◌, ◌^◌, false, bit_or, inl, inr, refl, ap, sym, ◌∙◌, arith}
use Rattle.std.specs.Prelude.{◌||◌, ◌==◌, max}
use Rattle.std.specs.Int.{bit_at}
use Rattle.std.proofs.Math.Bool.{or-true, or-false}
use Rattle.std.proofs.lemmas.Bool.{cases_Bool, eqb-true, eq-eqb}
use Rattle.std.proofs.lemmas.Nat.Bits.{bit_at-zero, bit_at_or, bit_at-pow_same, bit_at-pow_other, bit_at-lt, same_from_bits}
use Rattle.committee.specs.Sets.{has}
use Rattle.committee.specs.declared.sets.MemberSet.{MemberSet}
use Rattle.batchstore.specs.Answer.{no_members, with_member}

-- a bit or 0
max_zero : (bit : ℕ) → max bit 0 ≡ bit
max_zero bit = omega arith

-- a bit or 1
max_one : (bit : ℕ) → bit < 2 → max bit 1 ≡ 1
max_one bit low = omega arith

pub has-with_member : (members : MemberSet) (member other : ℕ) → has (with_member members member) other ≡ (has members other || (other == member))
has-with_member members member other =
    elim (cases_Bool (other == member)) [
      | inl same ↦
          let is : other ≡ member = eqb-true other member same in
          let bit : bit_at (bit_or members.bits (2 ^ member)) other ≡ 1 =
          bit_at_or members.bits (2 ^ member) other ∙ ap (max (bit_at members.bits other)) (ap (bit_at (2 ^ member)) is ∙ bit_at-pow_same member)
          ∙ max_one (bit_at members.bits other) (bit_at-lt members.bits other) in
          rw (same, or-true (has members other)) (ap (λ bit. bit == 1) bit)
      | inr apart ↦
          let differs : other ≢ member = λ e. (let same = eq-eqb other member e in absurd cc) in
          let bit : bit_at (bit_or members.bits (2 ^ member)) other ≡ bit_at members.bits other =
          bit_at_or members.bits (2 ^ member) other ∙ ap (max (bit_at members.bits other)) (bit_at-pow_other member other differs) ∙ max_zero (bit_at members.bits other) in
          rw (apart, or-false (has members other)) (ap (λ bit. bit == 1) bit)
    ]

-- two bits that are 1 alike are one
one_bit : (one other : ℕ) → one < 2 → other < 2 → (one == 1) ≡ (other == 1) → one ≡ other
one_bit one other low low_too same =
    elim (cases_Bool (one == 1)) [
      | inl both ↦ let here : one ≡ 1 = eqb-true one 1 both in let there : other ≡ 1 = eqb-true other 1 (sym same ∙ both) in here ∙ sym there
      | inr neither ↦
          let here : one ≢ 1 = λ e. (let is = eq-eqb one 1 e in absurd cc) in
          let there : other ≢ 1 = λ e. (let is = same ∙ eq-eqb other 1 e in absurd cc) in
          omega (arith, here, there)
    ]

-- sets of the same members are one
pub same_set : (one other : MemberSet) → ((member : ℕ) → has one member ≡ has other member) → one ≡ other
same_set one other same =
    ap (λ (n : ℕ). record { bits = n }) (same_from_bits one.bits other.bits (λ i. one_bit (bit_at one.bits i) (bit_at other.bits i) (bit_at-lt one.bits i) (bit_at-lt other.bits i) (same i)))

pub has-no_members : (member : ℕ) → has no_members member ≡ false
has-no_members member = rw bit_at-zero refl

-- the set of no member is that one
pub none_is : (members : MemberSet) → ((member : ℕ) → has members member ≡ false) → members ≡ no_members
none_is members none = same_set members no_members (λ m. none m ∙ sym (has-no_members m))

-- a set with one member more is that one
pub more_is : (old new : MemberSet) (member : ℕ) → ((other : ℕ) → has new other ≡ (has old other || (other == member))) → new ≡ with_member old member
more_is old new member more = same_set new (with_member old member) (λ m. more m ∙ sym (has-with_member old member m))
