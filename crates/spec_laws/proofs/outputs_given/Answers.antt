use Rattle.spec_laws.proofs.PutOut.{outputs_given}
use Rattle.spec_laws.proofs.outputs_given.Goals as goal

pub returns : goal.returns
returns c = outputs_given
