use Rattle.spec_world.proofs.Scripts.{scripts_are_runs}
use Rattle.spec_world.proofs.scripts_are_runs.Goals as goal

pub returns : goal.returns
returns c = scripts_are_runs
