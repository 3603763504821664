use Rattle.book.proofs.Stepping.{fail_is_a_step}
use Rattle.book.proofs.steps.fail_is_a_step.Goals as goal

pub returns : goal.returns
returns g c = fail_is_a_step g.row.S.Denot
