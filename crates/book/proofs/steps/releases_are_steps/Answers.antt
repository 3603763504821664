use Rattle.book.proofs.Stepping.{releases_are_steps}
use Rattle.book.proofs.steps.releases_are_steps.Goals as goal

pub returns : goal.returns
returns g c = releases_are_steps g.row.S.Denot
