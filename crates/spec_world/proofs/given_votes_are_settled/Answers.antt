use Rattle.spec_world.proofs.Lasting.{given_votes_are_settled}
use Rattle.spec_world.proofs.given_votes_are_settled.Goals as goal

pub returns : goal.returns
returns c = given_votes_are_settled
