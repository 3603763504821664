use Rattle.std.proofs.Common.{rules}
use Rattle.node_seats.proofs.Moves.{reads_down}
use Rattle.node_seats.proofs.words.Words.read_down.Goals as goal

pub load-requires : goal.load-requires
load-requires g c = (search rules, search rules, reads_down _ _ _ _ (search rules))
