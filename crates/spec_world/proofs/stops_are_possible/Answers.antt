use Rattle.spec_world.proofs.GoingOn.{stops_are_possible}
use Rattle.spec_world.proofs.stops_are_possible.Goals as goal

pub returns : goal.returns
returns c = stops_are_possible
