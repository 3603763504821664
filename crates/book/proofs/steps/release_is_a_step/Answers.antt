use Rattle.book.proofs.Stepping.{release_is_a_step}
use Rattle.book.proofs.steps.release_is_a_step.Goals as goal

pub returns : goal.returns
returns g c = release_is_a_step g.row.S.Denot
