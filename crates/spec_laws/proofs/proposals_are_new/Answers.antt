use Rattle.spec_laws.proofs.Proposed.{proposals_are_new}
use Rattle.spec_laws.proofs.proposals_are_new.Goals as goal

pub returns : goal.returns
returns c = proposals_are_new
