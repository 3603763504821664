use Rattle.std.proofs.Common.{◌≡◌, ◌≢◌, ℕ, ◌*◌, ◌^◌, ◌%◌, ◌<◌, Bool, true, false, bit_or, inl, inr, refl, ap, w32, arith}
use Rattle.std.specs.Prelude.{◌||◌, ◌==◌}
use Rattle.std.specs.Int.{bit_at}
use Rattle.std.proofs.lemmas.Bool.{cases_Bool, eqb-true, eq-eqb}
use Rattle.std.proofs.lemmas.Nat.Bits.{bit_at_set_same, bit_at_set_other}
use Rattle.committee.proofs.sets.MemberSet.insert.Goals as goal

or_true : (b : Bool) → (b || true) ≡ true
or_true true = refl
or_true false = refl

or_false : (b : Bool) → (b || false) ≡ b
or_false true = refl
or_false false = refl

-- one bit more
set_bit : (bits member other : ℕ) → member < 32 → (bit_at (bit_or bits (1 * 2 ^ member % 2 ^ 32)) other == 1) ≡ ((bit_at bits other == 1) || (other == member))
set_bit bits member other within =
    elim (cases_Bool (other == member)) [
      | inl same ↦
          let is : other ≡ member = eqb-true other member same in
          rw (same, or_true (bit_at bits other == 1), is) (ap (λ bit. bit == 1) (bit_at_set_same w32 bits member within))
      | inr apart ↦
          let differs : other ≢ member = λ e. (let same = eq-eqb other member e in absurd cc) in
          rw (apart, or_false (bit_at bits other == 1)) (ap (λ bit. bit == 1) (bit_at_set_other w32 bits member within other differs))
    ]

pub returns : goal.returns
returns c other = set_bit c.args.self.now.bits c.args.member.0 other (omega arith)
