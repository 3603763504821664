use Rattle.committee.proofs.Weights.{quorum_meets}
use Rattle.committee.proofs.laws.quorum_meets_support.Goals as goal

pub returns : goal.returns
returns c = quorum_meets
