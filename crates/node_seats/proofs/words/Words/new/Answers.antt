use Rattle.node_seats.proofs.Moves.{begins_kept}
use Rattle.node_seats.proofs.words.Words.new.Goals as goal

pub of_words-requires : goal.of_words-requires
of_words-requires g c = begins_kept _ c.requires.legal
