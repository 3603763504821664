-- Digits only make a number greater.
use Rattle.std.proofs.Common.{◌≡◌, ◌≤◌, ℕ, suc, ◌+◌, ◌-◌, ◌*◌, List, [], ◌∷◌, All, subst, sym, arith}
use Rattle.std.proofs.lemmas.List.Elements.{All-cons}
use Rattle.node_io.specs.Numbers.{IsDigit, number_of}

pub number_grows : (before : ℕ) (digits : List ℕ) → before ≤ number_of before digits
number_grows before [] = omega arith
number_grows before (digit ∷ rest) = let later = number_grows (before * 10 + (digit - 48)) rest in omega (arith, later)

-- a digit is taken from the front of what is left: the number, and whether all are digits
pub taken_value : (number next digit whole : ℕ) (rest after : List ℕ) → rest ≡ digit ∷ after → next ≡ number * 10 + (digit - 48)
    → number_of number rest ≡ whole → number_of next after ≡ whole
taken_value number next digit whole rest after is given value = rw given (subst (λ digits. number_of number digits ≡ whole) is value)

pub taken_ahead : {Whole : Type 0} (digit : ℕ) (rest after : List ℕ) → rest ≡ digit ∷ after → IsDigit digit → (All IsDigit rest → Whole) → All IsDigit after → Whole
taken_ahead digit rest after is one ahead all = ahead (subst (All IsDigit) (sym is) (All-cons IsDigit digit after one all))

pub taken_back : (digit : ℕ) (rest after : List ℕ) → rest ≡ digit ∷ after → All IsDigit rest → All IsDigit after
taken_back digit rest after is all k d below = subst (All IsDigit) is all (suc k) d (omega (arith, below))
