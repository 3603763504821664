use Rattle.ref_order.proofs.newer.+newer_to.Given as goal

abbrev pub decreases-newer_to : goal.decreases-newer_to
decreases-newer_to l = l.wave
