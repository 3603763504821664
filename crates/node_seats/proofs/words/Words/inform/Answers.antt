use Rattle.std.proofs.Common.{rules}
use Rattle.node_seats.proofs.Moves.{splits, joins}
use Rattle.node_seats.proofs.words.Words.inform.Goals as goal

pub split_seat-place-requires : goal.split_seat-place-requires
split_seat-place-requires g c = (search rules, search rules, splits _ _ _ (search rules))

pub join_seat-requires : goal.join_seat-requires
join_seat-requires g c = (search rules, search rules, search rules, search rules, joins _ _ _ _ _ (search rules) (search rules))
