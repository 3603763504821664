use Rattle.std.proofs.Common.{rules}
use Rattle.node_seats.proofs.Moves.{downs}
use Rattle.node_seats.proofs.words.Words.raise_down.Goals as goal

pub store-requires : goal.store-requires
store-requires g c = (search rules, search rules, downs _ _ _ _ (search rules) (search rules))
