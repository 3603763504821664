use Rattle.spec_laws.proofs.Proposed.{own_votes_pass}
use Rattle.spec_laws.proofs.own_votes_pass.Goals as goal

pub returns : goal.returns
returns c = own_votes_pass
