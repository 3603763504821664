use Rattle.spec_laws.proofs.Proposed.{proposals_pass}
use Rattle.spec_laws.proofs.proposals_pass.Goals as goal

pub returns : goal.returns
returns c = proposals_pass
