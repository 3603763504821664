-- The shapes of the records in the first group of an area.
use Rattle.std.proofs.Common.{◌≡◌, ℕ, ◌<◌, false, List, length, sym, eqb, arith}
use Rattle.std.proofs.lemmas.Bool.{and_right, ne_eqb}
use Rattle.journal.specs.Configuration.{members_in, size_in, has_front, is_configuration}
use Rattle.journal.specs.declared.version.Version.{Version}

pub shape_short : (version : Version) (bytes : List ℕ) → length bytes < 14 → false ≡ is_configuration version bytes
unfolding is_configuration
shape_short version bytes short =
    let size = size_in version (members_in bytes) in
    sym (and_right (has_front version bytes) (eqb (length bytes) size) (ne_eqb (length bytes) size (λ same. omega (arith, same))))
