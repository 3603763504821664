use Rattle.std.proofs.Common.{rules}
use Rattle.node_seats.proofs.Moves.{splits, numbers}
use Rattle.node_seats.proofs.words.Words.split.Goals as goal

pub split_seat-place-requires : goal.split_seat-place-requires
split_seat-place-requires g c = (search rules, search rules, splits _ _ _ (search rules))

pub load-requires : goal.load-requires
load-requires g c = (search rules, search rules, numbers _ _ _ _ (search rules))
