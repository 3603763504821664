use Rattle.spec_accord.proofs.OneHeader.{headers_agree}
use Rattle.spec_accord.proofs.members.headers_agree.Goals as goal

pub returns : goal.returns
returns c = headers_agree
