use Rattle.spec_records.proofs.Configurations.{one_configuration}
use Rattle.spec_records.proofs.one_configuration.Goals as goal

pub returns : goal.returns
returns c = one_configuration
