use Rattle.admission.proofs.Reading.{batches_read}
use Rattle.admission.proofs.facts.batches_read.Goals as goal

pub returns : goal.returns
returns c = batches_read
