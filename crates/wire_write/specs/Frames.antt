-- How much of a frame is written if the writer fails.
use Rattle.std.specs.Prelude.{◌<◌, ℕ, List, Option, length}
use Rattle.std.specs.Io.KnownBytes.{Appends}
use Rattle.wire.specs.Lists.{Begins}

-- the writer has got a further prefix of these bytes, but not all of them
pub record AppendsLess (old new : Option (List ℕ)) (bytes : List ℕ) : Type 0 where
  pub part : List ℕ
  pub begins : Begins part bytes
  pub less : length part < length bytes
  pub appends : Appends old new part
