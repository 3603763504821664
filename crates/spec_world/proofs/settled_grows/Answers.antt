use Rattle.spec_world.proofs.Lasting.{settled_grows}
use Rattle.spec_world.proofs.settled_grows.Goals as goal

pub returns : goal.returns
returns c = settled_grows
