use Rattle.admission.proofs.Voting.{vote_is_kept}
use Rattle.admission.proofs.facts.vote_is_kept.Goals as goal

pub returns : goal.returns
returns c = vote_is_kept c.floors_agree.ensures
