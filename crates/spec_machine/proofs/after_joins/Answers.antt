use Rattle.spec_machine.proofs.AfterAll.{after_joins}
use Rattle.spec_machine.proofs.after_joins.Goals as goal

pub returns : goal.returns
returns c = after_joins
