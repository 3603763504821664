use Rattle.opening.proofs.stores.reopen_pair.Goals as goal

pub returns-in-Ok-clause-newest : goal.returns-in-Ok-clause-newest
returns-in-Ok-clause-newest g c = c.in-Ok.ensures.newest c.in-Ok.ensures.disks.0
