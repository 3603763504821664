use Rattle.spec_world.proofs.Scripts.{scripts_begin}
use Rattle.spec_world.proofs.scripts_begin.Goals as goal

pub returns : goal.returns
returns c = scripts_begin
