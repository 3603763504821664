use Rattle.spec_world.proofs.GoingOn.{runs_go_on}
use Rattle.spec_world.proofs.runs_go_on.Goals as goal

pub returns : goal.returns
returns c = runs_go_on
