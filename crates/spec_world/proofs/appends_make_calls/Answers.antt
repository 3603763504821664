use Rattle.spec_world.proofs.GoingOn.{appends_make_calls}
use Rattle.spec_world.proofs.appends_make_calls.Goals as goal

pub returns : goal.returns
returns c = appends_make_calls
