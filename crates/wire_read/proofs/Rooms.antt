-- How many entries bytes have room for.
use Rattle.std.proofs.Common.{ℕ, ◌*◌, ◌/◌, ◌≤◌, arith}
use Rattle.std.proofs.lemmas.Nat.{mul-le, div-add-mod'}

-- as many as a room divides into have room there
pub has_room : (many room each : ℕ) → many ≤ room / each → many * each ≤ room
has_room many room each le = omega (arith, mul-le many each (room / each) each le (omega arith), div-add-mod' room each)
