use Rattle.committee.proofs.Weights.{some_of_weight}
use Rattle.committee.proofs.laws.some_if_weighs.Goals as goal

pub returns : goal.returns
returns c charter holds some = some_of_weight charter holds some
