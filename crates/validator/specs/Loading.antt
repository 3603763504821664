-- What contracts see of a validator that is being loaded.
use Rattle.std.specs.Prelude.{ℕ, List}
use Rattle.checkpoint.specs.Reader.{ReaderView}
use Rattle.validator.specs.Setting.{ConfigView}

-- the setting of a validator that is being loaded, and the records that it was given so far
pub record LoadingView (S : Type 0) : Type 0 where
  pub setting : ConfigView S
  pub records : List (List ℕ)

-- the reader of a checkpoint that belongs to a validator being loaded: it has the validator's setting, and the same records so far
abbrev pub reader_for : {S : Type 0} → ConfigView S → List (List ℕ) → ReaderView S
reader_for setting records = record { own = setting.own; charter = setting.charter; signer = setting.signer; records = records }
