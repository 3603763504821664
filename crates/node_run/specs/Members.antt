-- Which member a node runs as, or why there is no such member.
use Rattle.std.specs.Prelude.{◌≡◌, ◌≢◌, ◌<◌, ◌⊎◌, ⊤, ℕ, List, [], length, All, Some, Ok, Err, slice_get, IsUtf8}
use Rattle.committee.specs.Answer.{answer_to}
use Rattle.committee.specs.Charter.{Charter}
use Rattle.committee.specs.declared.error.CommitteeError.{CommitteeError}
use Rattle.committee.specs.declared.error.CommitteeError.TheVariants.{NotToml}
use Rattle.journal.specs.declared.error.JournalError.TheVariants.{Device}
use Rattle.node_io.specs.Numbers.{IsDigit, number_of}
use Rattle.node_io.specs.declared.ending.Ending.{Ending}
use Rattle.node_io.specs.declared.ending.Ending.TheVariants.{Usage, Config, Journal, Memory}
use Rattle.toml.specs.Errors.{IsBlank}
use Rattle.toml.specs.Parse.{parse_document}
use Rattle.validator.specs.Setting.{ConfigView}
use Rattle.wire.specs.declared.keys.Key.{Key}

-- the configuration has the committee that the file's text describes, the member with this number, and this member's key
pub record IsConfigOf (text own : List ℕ) (config : ConfigView Key) : Type 0 where
  pub committee : answer_to (parse_document text) ≡ Ok config.charter
  pub digits : All IsDigit own
  pub some : own ≢ []
  pub number : config.own.0 ≡ number_of 0 own
  pub key : slice_get config.charter.keys config.own.0 ≡ Some config.signer

-- these decimal digits are the number of a member of the committee
pub record NamesMember (charter : Charter) (own : List ℕ) : Type 0 where
  pub digits : All IsDigit own
  pub some : own ≢ []
  pub member : number_of 0 own < length charter.keys

-- the file's bytes describe no committee, for this reason; bytes that aren't UTF-8 are reported as no TOML
abbrev pub MakesNone : List ℕ → CommitteeError → Type 0
MakesNone text error = ((IsUtf8 text → ⊥) × (error ≡ NotToml)) ⊎ (IsUtf8 text × (answer_to (parse_document text) ≡ Err error))

-- the file's bytes describe a committee that has no member with this number
pub record HasNoMember (text own : List ℕ) : Type 0 where
  pub utf8 : IsUtf8 text
  pub charter : Charter
  pub committee : answer_to (parse_document text) ≡ Ok charter
  pub stranger : NamesMember charter own → ⊥

-- Why a file's bytes and a number give no configuration: an allocation failed, and the text isn't blank; the bytes describe no committee;
-- or the committee has no member with this number.
abbrev pub RefusesConfig : List ℕ → List ℕ → Ending → Type 0
RefusesConfig text own Memory = IsUtf8 text × (IsBlank text → ⊥)
RefusesConfig text own (Config error) = MakesNone text error
RefusesConfig text own Usage = HasNoMember text own
RefusesConfig text own other = ⊥

-- Why nothing was opened for a number: an allocation failed; a file can't be read, or its committee has no member with this number; the
-- file's bytes describe no committee; or they give a configuration, and the journal can't be opened. Nothing more is said of the first two
-- reasons. In the others "the file's bytes" are some bytes, since contracts don't know what the file has.
abbrev pub RefusesOpening : List ℕ → Ending → Type 0
RefusesOpening own Memory = ⊤
RefusesOpening own Usage = ⊤
RefusesOpening own (Config error) = (text : List ℕ) × MakesNone text error
RefusesOpening own (Journal error) = (error ≡ Device) × ((text : List ℕ) × (config : ConfigView Key) × IsConfigOf text own config)
RefusesOpening own other = ⊥
