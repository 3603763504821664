use Rattle.spec_machine.proofs.Enough.{held_is_enough_after}
use Rattle.spec_machine.proofs.held_is_enough_after.Goals as goal

pub returns : goal.returns
returns c = held_is_enough_after
