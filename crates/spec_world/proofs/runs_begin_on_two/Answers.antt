use Rattle.spec_world.proofs.Beginning.{runs_begin_on_two}
use Rattle.spec_world.proofs.runs_begin_on_two.Goals as goal

pub returns : goal.returns
returns c = runs_begin_on_two
