use Rattle.flatten.proofs.Staying.{made_still}
use Rattle.flatten.proofs.facts.made_stays.Goals as goal

pub returns : goal.returns
returns c before after certificate made enters above of = made_still before after certificate made enters above of
