-- The prefixes of a list.
use Rattle.std.specs.Prelude.{◌≡◌, List, ◌++◌}

-- one list is a prefix of another
pub record Begins {X : Type 0} (front whole : List X) : Type 0 where
  pub rest : List X
  pub parts : whole ≡ front ++ rest
