use Rattle.spec_world.proofs.GoingOn.{checkpoints_settle}
use Rattle.spec_world.proofs.checkpoints_settle.Goals as goal

pub returns : goal.returns
returns c = checkpoints_settle
