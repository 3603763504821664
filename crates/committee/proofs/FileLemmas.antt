-- What follows of a committee file's limits.
use Rattle.std.proofs.Common.{◌≡◌, ℕ, ◌≤◌, ℤ, pos, negsuc, Bool, true, false, List, Option, Some, None, refl, arith, nat_le}
use Rattle.std.proofs.lemmas.Bool.{and_parts, leb-true}
use Rattle.std.specs.Prelude.{◌&&◌, option_and_then, if◌then◌else◌}
use Rattle.toml.specs.Data.{Data, no_members, as_integer}
use Rattle.toml.specs.Errors.{IsBlank}
use Rattle.toml.specs.Parse.{parse_document, lines}
use Rattle.committee.specs.File.{number_within, limit}

-- what a test of both bounds says
bounds_hold : (least greatest m : ℕ) → (nat_le least m && nat_le m greatest) ≡ true → (least ≤ m) × (m ≤ greatest)
bounds_hold least greatest m h =
    let parts = and_parts (nat_le least m) (nat_le m greatest) h in
    (leb-true least m parts.0, leb-true m greatest parts.1)

kept-bounds : (inside : Bool) (least greatest m n : ℕ) → (inside ≡ true → (least ≤ m) × (m ≤ greatest)) → (if inside then Some m else None) ≡ Some n → (least ≤ n) × (n ≤ greatest)
kept-bounds true least greatest m n bounds h =
    let same : m ≡ n = cc in
    rw (← same) (bounds refl)
kept-bounds false least greatest m n bounds h = absurd cc

-- a number within bounds
number_within-bounds : (least greatest : ℕ) (z : ℤ) (n : ℕ) → number_within least greatest z ≡ Some n → (least ≤ n) × (n ≤ greatest)
number_within-bounds least greatest (pos m) n h = kept-bounds (nat_le least m && nat_le m greatest) least greatest m n (bounds_hold least greatest m) h
number_within-bounds least greatest (negsuc m) n h = absurd cc

-- an integer that is one
pub integer-bounds : (least greatest : ℕ) (o : Option ℤ) (n : ℕ) → option_and_then (number_within least greatest) o ≡ Some n → (least ≤ n) × (n ≤ greatest)
integer-bounds least greatest None n h = absurd cc
integer-bounds least greatest (Some z) n h = number_within-bounds least greatest z n h

-- a limit is within its bounds
pub limit-bounds : (least greatest default : ℕ) (o : Option Data) (n : ℕ) → least ≤ default → default ≤ greatest → Some n ≡ limit least greatest default o → (least ≤ n) × (n ≤ greatest)
limit-bounds least greatest default None n low high h =
    let same : n ≡ default = cc in
    (omega arith, omega arith)
limit-bounds least greatest default (Some d) n low high h = integer-bounds least greatest (as_integer d) n (cc)

-- a text of white space and comments is a file that says nothing
pub blank-file : (text : List ℕ) → IsBlank text → parse_document text ≡ Some no_members
unfolding parse_document lines
blank-file text h = rw h
