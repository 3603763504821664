use Rattle.spec_laws.proofs.ProposedTaken.{proposals_are_legal}
use Rattle.spec_laws.proofs.proposals_are_legal.Goals as goal

pub returns : goal.returns
returns c = proposals_are_legal
