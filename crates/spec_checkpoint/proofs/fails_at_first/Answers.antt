use Rattle.spec_checkpoint.proofs.FirstFault.{fails_at_first}
use Rattle.spec_checkpoint.proofs.fails_at_first.Goals as goal

pub returns : goal.returns
returns c = fails_at_first
