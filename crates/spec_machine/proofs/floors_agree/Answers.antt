use Rattle.spec_machine.proofs.Floors.{floors_agree}
use Rattle.spec_machine.proofs.floors_agree.Goals as goal

pub returns : goal.returns
returns c = floors_agree
