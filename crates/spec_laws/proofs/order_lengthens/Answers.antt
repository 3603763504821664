use Rattle.spec_laws.proofs.Lengthening.{order_lengthens}
use Rattle.spec_laws.proofs.order_lengthens.Goals as goal

pub returns : goal.returns
returns c = order_lengthens
