use Rattle.std.proofs.Common.{rules}
use Rattle.node_seats.proofs.Moves.{reads}
use Rattle.node_seats.proofs.words.Words.read.Goals as goal

pub load-requires : goal.load-requires
load-requires g c = (search rules, search rules, reads _ _ _ _ _ (search rules) (search rules))
