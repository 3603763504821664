use Rattle.spec_machine.proofs.AfterAll.{order_grows_after}
use Rattle.spec_machine.proofs.order_grows_after.Goals as goal

pub returns : goal.returns
returns c = order_grows_after
