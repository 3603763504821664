use Rattle.spec_machine.proofs.AfterAll.{states_are_histories}
use Rattle.spec_machine.proofs.states_are_histories.Goals as goal

pub returns : goal.returns
returns c = states_are_histories
