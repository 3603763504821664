use Rattle.std.proofs.Common.{rules}
use Rattle.node_seats.proofs.Moves.{settles}
use Rattle.node_seats.proofs.words.Words.settle.Goals as goal

pub compare_exchange-requires : goal.compare_exchange-requires
compare_exchange-requires g c = (search rules, search rules, settles _ _ _ _ _ _ (search rules) (search rules) (search rules) (search rules))
