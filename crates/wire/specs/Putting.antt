-- What it means that bytes are only appended.
use Rattle.std.specs.Prelude.{ℕ, List}
use Rattle.wire.specs.Lists.{Begins}

-- whatever was a prefix of the old bytes is a prefix of the new ones
abbrev pub Keeps : List ℕ → List ℕ → Type 0
Keeps old new = (start : List ℕ) → Begins start old → Begins start new
