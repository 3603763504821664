use Rattle.spec_world.proofs.GoingOn.{two_groups_settle}
use Rattle.spec_world.proofs.two_groups_settle.Goals as goal

pub returns : goal.returns
returns c = two_groups_settle
