-- The settings of the members of a simulated committee.
use Rattle.std.specs.Prelude.{◌≡◌, ◌<◌, ℕ, List, Ok, All}
use Rattle.cluster.specs.Cluster.{AreOfOne, AreDistinct}
use Rattle.committee.specs.Answer.{answer_to}
use Rattle.toml.specs.Parse.{parse_document}
use Rattle.validator.specs.Setting.{ConfigView}

-- these settings are of the committee that the file describes, and of members whose numbers are below `next`
pub record AreOfFile {S : Type 0} (file : List ℕ) (next : ℕ) (settings : List (ConfigView S)) : Type 0 where
  pub read : All (λ setting. answer_to (parse_document file) ≡ Ok setting.charter) settings
  pub below : All (λ setting. setting.own.0 < next) settings
  pub distinct : AreDistinct settings

-- a cluster can be made of these settings: they are of one committee, and of different members
pub record AreSettings {S : Type 0} (settings : List (ConfigView S)) : Type 0 where
  pub one : AreOfOne settings
  pub distinct : AreDistinct settings
