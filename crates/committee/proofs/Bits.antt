-- Bits, one of each of two numbers.
use Rattle.std.proofs.Common.{◌≡◌, ℕ, zero, suc, ◌<◌, max, min, refl, arith}
use Rattle.std.specs.Prelude.{◌||◌, ◌&&◌, ◌==◌, ◌+◌, ◌%◌, not}

-- the greater of two bits is set where one of them is
pub one_of_two : (one other : ℕ) → one < 2 → other < 2 → (max one other == 1) ≡ ((one == 1) || (other == 1))
one_of_two zero zero low low' = refl
one_of_two zero (suc zero) low low' = refl
one_of_two (suc zero) zero low low' = refl
one_of_two (suc zero) (suc zero) low low' = refl
one_of_two (suc (suc one)) other low low' = absurd (omega (arith, low))
one_of_two one (suc (suc other)) low low' = absurd (omega (arith, low'))

-- the lesser where both are
pub both_of_two : (one other : ℕ) → one < 2 → other < 2 → (min one other == 1) ≡ ((one == 1) && (other == 1))
both_of_two zero zero low low' = refl
both_of_two zero (suc zero) low low' = refl
both_of_two (suc zero) zero low low' = refl
both_of_two (suc zero) (suc zero) low low' = refl
both_of_two (suc (suc one)) other low low' = absurd (omega (arith, low))
both_of_two one (suc (suc other)) low low' = absurd (omega (arith, low'))

-- without what both have, the first one has what the other one hasn't
pub first_of_two : (one other : ℕ) → one < 2 → other < 2 → ((one + min one other) % 2 == 1) ≡ ((one == 1) && not (other == 1))
first_of_two zero zero low low' = refl
first_of_two zero (suc zero) low low' = refl
first_of_two (suc zero) zero low low' = refl
first_of_two (suc zero) (suc zero) low low' = refl
first_of_two (suc (suc one)) other low low' = absurd (omega (arith, low))
first_of_two one (suc (suc other)) low low' = absurd (omega (arith, low'))
