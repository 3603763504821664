use Rattle.spec_machine.proofs.Standing.{state_stands}
use Rattle.spec_machine.proofs.state_stands.Goals as goal

pub returns : goal.returns
returns c = state_stands
