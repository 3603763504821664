use Rattle.spec_machine.proofs.Answering.{state_is_ready}
use Rattle.spec_machine.proofs.state_is_ready.Goals as goal

pub returns : goal.returns
returns c = state_is_ready
