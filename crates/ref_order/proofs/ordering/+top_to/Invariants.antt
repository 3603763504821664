use Rattle.ref_order.proofs.ordering.+top_to.Given as goal

abbrev pub decreases-top_to : goal.decreases-top_to
decreases-top_to l = l.wave
