use Rattle.spec_laws.proofs.Given.{given_grows}
use Rattle.spec_laws.proofs.OrderGrows.{order_grows}
use Rattle.spec_laws.proofs.given_grows.Goals as goal

pub returns : goal.returns
returns c = given_grows order_grows
