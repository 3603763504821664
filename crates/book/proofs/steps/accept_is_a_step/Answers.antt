use Rattle.book.proofs.Stepping.{accept_is_a_step}
use Rattle.book.proofs.steps.accept_is_a_step.Goals as goal

pub returns : goal.returns
returns g c = accept_is_a_step g.row.S.Denot
