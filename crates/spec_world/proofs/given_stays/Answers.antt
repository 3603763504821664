use Rattle.spec_world.proofs.Lasting.{given_stays}
use Rattle.spec_world.proofs.given_stays.Goals as goal

pub returns : goal.returns
returns c = given_stays
