use Rattle.admission.proofs.Voting.{votes_stay}
use Rattle.admission.proofs.facts.votes_stay.Goals as goal

pub returns : goal.returns
returns c = votes_stay c.floors_agree.ensures
