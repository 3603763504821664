use Rattle.flatten.proofs.Following.{each_follows}
use Rattle.flatten.proofs.facts.each_follows.Goals as goal

pub returns : goal.returns
returns c = each_follows
