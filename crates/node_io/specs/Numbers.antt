-- Numbers in decimal digits.
use Rattle.std.specs.Prelude.{◌≤◌, ℕ, ◌+◌, ◌-◌, ◌*◌, List, [], ◌∷◌}

-- a byte is one of the characters 0 to 9
pub record IsDigit (byte : ℕ) : Type 0 where
  pub least : 48 ≤ byte
  pub greatest : byte ≤ 57

-- the number that has first the digits of `before` and then these, the highest digit first
abbrev pub number_of : ℕ → List ℕ → ℕ
number_of before [] = before
number_of before (digit ∷ rest) = number_of (before * 10 + (digit - 48)) rest
