use Rattle.spec_world.proofs.Histories.{histories_begin}
use Rattle.spec_world.proofs.histories_begin.Goals as goal

pub returns : goal.returns
returns c = histories_begin
