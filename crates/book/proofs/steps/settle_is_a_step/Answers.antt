use Rattle.book.proofs.Stepping.{settle_is_a_step}
use Rattle.book.proofs.steps.settle_is_a_step.Goals as goal

pub returns : goal.returns
returns g c = settle_is_a_step g.row.S.Denot
