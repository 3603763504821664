use Rattle.spec_machine.proofs.Deciding.{kept_proposes}
use Rattle.spec_machine.proofs.kept_proposes.Goals as goal

pub returns : goal.returns
returns c = kept_proposes
