use Rattle.spec_world.proofs.GoingOn.{groups_settle}
use Rattle.spec_world.proofs.groups_settle.Goals as goal

pub returns : goal.returns
returns c = groups_settle
