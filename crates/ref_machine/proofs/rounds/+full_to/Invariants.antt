use Rattle.ref_machine.proofs.rounds.+full_to.Given as goal

abbrev pub decreases-full_to : goal.decreases-full_to
decreases-full_to g l = l.round
