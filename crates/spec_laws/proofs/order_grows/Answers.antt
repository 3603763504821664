use Rattle.spec_laws.proofs.OrderGrows.{order_grows}
use Rattle.spec_laws.proofs.order_grows.Goals as goal

pub returns : goal.returns
returns c = order_grows
