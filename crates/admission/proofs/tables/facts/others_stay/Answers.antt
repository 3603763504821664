use Rattle.admission.proofs.Beside.{others_stay}
use Rattle.admission.proofs.tables.facts.others_stay.Goals as goal

pub returns : goal.returns
returns c = others_stay c.low_is_to_the_floor.ensures c.batches_stay.ensures c.votes_stay.ensures c.others_come.ensures c.sequence_stays.ensures
