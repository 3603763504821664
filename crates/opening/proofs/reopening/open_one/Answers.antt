use Rattle.journal.specs.Areas.{stands_in}
use Rattle.opening.proofs.reopening.open_one.Goals as goal

pub returns-in-Ok-clause-records : goal.returns-in-Ok-clause-records
unfolding stands_in
returns-in-Ok-clause-records g c = c.in-Ok.ensures.records

pub returns-in-Ok-clause-same : goal.returns-in-Ok-clause-same
unfolding stands_in
returns-in-Ok-clause-same g c = rw c.in-Ok.ensures.content.0 at c.in-Ok.ensures.same

pub returns-in-One-clause-damaged : goal.returns-in-One-clause-damaged
unfolding stands_in
returns-in-One-clause-damaged g c = c.in-Err.ensures.damaged
