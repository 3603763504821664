use Rattle.opening.proofs.PairLaws.{what_stands_is_decoded_in}
use Rattle.opening.proofs.standing.what_stands_is_decoded_in.Goals as goal

pub returns : goal.returns
returns c = what_stands_is_decoded_in
