use Rattle.spec_machine.proofs.Following.{state_follows}
use Rattle.spec_machine.proofs.state_follows.Goals as goal

pub returns : goal.returns
returns c = state_follows
