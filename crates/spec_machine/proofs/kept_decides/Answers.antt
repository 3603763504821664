use Rattle.spec_machine.proofs.Deciding.{kept_decides}
use Rattle.spec_machine.proofs.kept_decides.Goals as goal

pub returns : goal.returns
returns c = kept_decides
