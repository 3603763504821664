-- Numbers of two bytes.
use Rattle.std.proofs.Common.{◌≡◌, ℕ, refl, arith}
use Rattle.std.specs.Prelude.{◌/◌, ◌%◌}
use Rattle.std.specs.Int.{w16, to_be_bytes}

-- the two lower bytes of a number are those of its rest
pub lower_bytes : (n : ℕ) → to_be_bytes w16 (n % 65536) ≡ to_be_bytes w16 n
lower_bytes n =
    let higher : n % 65536 / 256 % 256 ≡ n / 256 % 256 = omega arith in
    let lower : n % 65536 % 256 ≡ n % 256 = omega arith in
    rw (higher, lower) refl
