use Rattle.spec_world.proofs.Lasting.{events_came_in}
use Rattle.spec_world.proofs.events_came_in.Goals as goal

pub returns : goal.returns
returns c = events_came_in
