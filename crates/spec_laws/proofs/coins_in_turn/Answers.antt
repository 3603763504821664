use Rattle.spec_laws.proofs.CoinsInTurn.{coins_in_turn}
use Rattle.spec_laws.proofs.coins_in_turn.Goals as goal

pub returns : goal.returns
returns c = coins_in_turn
