use Rattle.opening.proofs.Laws.{what_stands_is_decoded}
use Rattle.opening.proofs.standing.what_stands_is_decoded.Goals as goal

pub returns : goal.returns
returns c = what_stands_is_decoded
