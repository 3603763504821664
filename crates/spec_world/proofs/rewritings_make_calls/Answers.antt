use Rattle.spec_world.proofs.GoingOn.{rewritings_make_calls}
use Rattle.spec_world.proofs.rewritings_make_calls.Goals as goal

pub returns : goal.returns
returns c = rewritings_make_calls
