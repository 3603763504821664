use Rattle.diskmodel.proofs.countdowns.Countdowns.count.Goals as goal

pub returns-in-Read-clause-fails : goal.returns-in-Read-clause-fails
returns-in-Read-clause-fails c = rw c.in-Read.is c.count_down.ensures.fails

pub returns-in-Write-clause-fails : goal.returns-in-Write-clause-fails
returns-in-Write-clause-fails c = rw c.in-Write.is c.count_down-in-Write.ensures.fails

pub returns-in-Cut-clause-fails : goal.returns-in-Cut-clause-fails
returns-in-Cut-clause-fails c = rw c.in-Cut.is c.count_down-in-Cut.ensures.fails

pub returns-in-Sync-clause-fails : goal.returns-in-Sync-clause-fails
returns-in-Sync-clause-fails c = rw c.in-Sync.is c.count_down-in-Sync.ensures.fails
