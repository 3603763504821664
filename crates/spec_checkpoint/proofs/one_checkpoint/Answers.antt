use Rattle.spec_checkpoint.proofs.Loadable.{one_checkpoint}
use Rattle.spec_checkpoint.proofs.one_checkpoint.Goals as goal

pub returns : goal.returns
returns c = one_checkpoint
