use Rattle.spec_laws.proofs.FromFloor.{held_is_enough}
use Rattle.spec_laws.proofs.held_is_enough.Goals as goal

pub returns : goal.returns
returns c = held_is_enough
