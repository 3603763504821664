use Rattle.spec_machine.proofs.Answering.{state_answers}
use Rattle.spec_machine.proofs.state_answers.Goals as goal

pub returns : goal.returns
returns c = state_answers
