use Rattle.spec_machine.proofs.Deciding.{answers_alike}
use Rattle.spec_machine.proofs.answers_alike.Goals as goal

pub returns : goal.returns
returns c = answers_alike
