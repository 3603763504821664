use Rattle.spec_laws.proofs.OneMore.{one_more}
use Rattle.spec_laws.proofs.one_more.Goals as goal

pub returns : goal.returns
returns c = one_more
