use Rattle.admission.proofs.Beginning.{starts_empty}
use Rattle.admission.proofs.facts.starts_empty.Goals as goal

pub returns : goal.returns
returns c = starts_empty
