use Rattle.spec_accord.proofs.OneHeader.{headers_agree_ever}
use Rattle.spec_accord.proofs.members.headers_agree_ever.Goals as goal

pub returns : goal.returns
returns c = headers_agree_ever
