use Rattle.admission.proofs.BatchesAfter.{batches_stay}
use Rattle.admission.proofs.facts.batches_stay.Goals as goal

pub returns : goal.returns
returns c = batches_stay
