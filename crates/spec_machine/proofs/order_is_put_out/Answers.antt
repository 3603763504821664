use Rattle.spec_machine.proofs.PuttingOut.{order_is_put_out}
use Rattle.spec_machine.proofs.order_is_put_out.Goals as goal

pub returns : goal.returns
returns c = order_is_put_out
