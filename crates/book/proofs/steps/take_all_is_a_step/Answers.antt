use Rattle.book.proofs.Stepping.{take_all_is_a_step}
use Rattle.book.proofs.steps.take_all_is_a_step.Goals as goal

pub returns : goal.returns
returns g c = take_all_is_a_step g.row.S.Denot
