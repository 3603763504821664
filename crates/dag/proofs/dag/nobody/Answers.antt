use Rattle.std.proofs.Common.{◌≡◌, ◌∙◌, ℕ, zero, suc, false, refl, ap, sym, ◌<◌, arith}
use Rattle.std.specs.Prelude.{◌==◌}
use Rattle.std.specs.Int.{bit_at}
use Rattle.std.proofs.lemmas.Nat.Bits.{bit_at-zero, bit_at-lt, same_from_bits}
use Rattle.committee.specs.declared.sets.MemberSet.{MemberSet}
use Rattle.dag.specs.Sets.{nobody}
use Rattle.dag.proofs.dag.nobody.Goals as goal

zero_bit : (bit : ℕ) → bit < 2 → (bit == 1) ≡ false → bit ≡ 0
zero_bit zero low not = refl
zero_bit (suc zero) low not = absurd cc
zero_bit (suc (suc bit)) low not = absurd (omega (arith, low))

-- a set that has nobody is that of nobody
nobody_is : (set : MemberSet) → ((member : ℕ) → (bit_at set.bits member == 1) ≡ false) → set ≡ nobody
nobody_is set none =
    let bits : set.bits ≡ 0 = same_from_bits set.bits 0 (λ i. zero_bit (bit_at set.bits i) (bit_at-lt set.bits i) (none i) ∙ sym (bit_at-zero i)) in
    ap (λ (b : ℕ). record { bits = b }) bits

pub returns : goal.returns
returns c = nobody_is c.none.result c.none.ensures
