use Rattle.spec_world.proofs.Lasting.{given_orders_are_settled}
use Rattle.spec_world.proofs.given_orders_are_settled.Goals as goal

pub returns : goal.returns
returns c = given_orders_are_settled
