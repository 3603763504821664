use Rattle.opening.proofs.PairLaws.{decoded_in_stands_for}
use Rattle.opening.proofs.standing.decoded_in_stands_for.Goals as goal

pub returns : goal.returns
returns c = decoded_in_stands_for c.starts_fresh.ensures c.groups_stand.ensures.only
