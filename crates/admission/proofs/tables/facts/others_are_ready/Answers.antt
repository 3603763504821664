use Rattle.admission.proofs.Readying.{others_are_ready}
use Rattle.admission.proofs.tables.facts.others_are_ready.Goals as goal

pub returns : goal.returns
returns c = others_are_ready
