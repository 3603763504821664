use Rattle.flusher.proofs.Collecting.{collected_is_within, collected_votes_agree, collected_orders_agree}
use Rattle.flusher.proofs.laws.collected_agrees.Goals as goal

pub returns-clause-within : goal.returns-clause-within
returns-clause-within g c = collected_is_within g.row.S.Denot

pub returns-clause-votes : goal.returns-clause-votes
returns-clause-votes g c = collected_votes_agree g.row.S.Denot c.what_goes_out_agrees.ensures

pub returns-clause-orders : goal.returns-clause-orders
returns-clause-orders g c = collected_orders_agree g.row.S.Denot
