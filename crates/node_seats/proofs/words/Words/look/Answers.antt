use Rattle.std.proofs.Common.{rules}
use Rattle.node_seats.proofs.Moves.{looks}
use Rattle.node_seats.proofs.words.Words.look.Goals as goal

pub load-requires : goal.load-requires
load-requires g c = (search rules, search rules, looks _ _ _ _ _ (search rules) (search rules))
