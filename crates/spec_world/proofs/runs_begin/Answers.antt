use Rattle.spec_world.proofs.Beginning.{runs_begin}
use Rattle.spec_world.proofs.runs_begin.Goals as goal

pub returns : goal.returns
returns c = runs_begin
