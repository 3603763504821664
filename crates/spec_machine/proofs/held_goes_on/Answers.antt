use Rattle.spec_machine.proofs.Enough.{held_goes_on}
use Rattle.spec_machine.proofs.held_goes_on.Goals as goal

pub returns : goal.returns
returns c = held_goes_on
