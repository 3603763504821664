use Rattle.book.proofs.Stepping.{flush_is_steps}
use Rattle.book.proofs.steps.flush_is_steps.Goals as goal

pub returns : goal.returns
returns g c = flush_is_steps g.row.S.Denot
