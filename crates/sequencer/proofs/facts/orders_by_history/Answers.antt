use Rattle.sequencer.proofs.OrdersByHistory.{orders_by_history}
use Rattle.sequencer.proofs.facts.orders_by_history.Goals as goal

pub returns : goal.returns
returns c = orders_by_history c.each_follows.ensures
