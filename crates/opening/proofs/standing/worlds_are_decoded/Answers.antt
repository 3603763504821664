use Rattle.opening.proofs.Laws.{worlds_are_decoded}
use Rattle.opening.proofs.standing.worlds_are_decoded.Goals as goal

pub returns : goal.returns
returns c = worlds_are_decoded c.never_takes_back.ensures
