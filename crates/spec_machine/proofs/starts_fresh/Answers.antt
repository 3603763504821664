use Rattle.spec_machine.proofs.Starting.{starts_fresh}
use Rattle.spec_machine.proofs.starts_fresh.Goals as goal

pub returns : goal.returns
returns c = starts_fresh
