use Rattle.spec_machine.proofs.Proposing.{state_proposes}
use Rattle.spec_machine.proofs.state_proposes.Goals as goal

pub returns : goal.returns
returns c = state_proposes
