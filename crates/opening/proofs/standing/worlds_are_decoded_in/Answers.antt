use Rattle.opening.proofs.PairLaws.{worlds_are_decoded_in}
use Rattle.opening.proofs.standing.worlds_are_decoded_in.Goals as goal

pub returns : goal.returns
returns c = worlds_are_decoded_in c.never_takes_back.ensures
