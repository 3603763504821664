use Rattle.spec_machine.proofs.Deciding.{kept_follows}
use Rattle.spec_machine.proofs.kept_follows.Goals as goal

pub returns : goal.returns
returns c = kept_follows
