use Rattle.spec_laws.proofs.Votes.{one_vote}
use Rattle.spec_laws.proofs.one_vote.Goals as goal

pub returns : goal.returns
returns c = one_vote
