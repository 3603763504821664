use Rattle.spec_records.proofs.Once.{no_configuration}
use Rattle.spec_records.proofs.no_configuration.Goals as goal

pub returns : goal.returns
returns c = no_configuration
