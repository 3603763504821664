use Rattle.spec_world.proofs.GoingOn.{runs_begin_with_what_stands}
use Rattle.spec_world.proofs.runs_begin_with_what_stands.Goals as goal

pub returns : goal.returns
returns c = runs_begin_with_what_stands
