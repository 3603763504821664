use Rattle.spec_world.proofs.GoingOn.{runs_begin_at_states}
use Rattle.spec_world.proofs.runs_begin_at_states.Goals as goal

pub returns : goal.returns
returns c = runs_begin_at_states
