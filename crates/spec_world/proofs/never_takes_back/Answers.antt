use Rattle.spec_world.proofs.Law.{nothing_taken_back}
use Rattle.spec_world.proofs.never_takes_back.Goals as goal

pub returns : goal.returns
returns c = nothing_taken_back
