use Rattle.book.proofs.Stepping.{checkpoint_is_steps}
use Rattle.book.proofs.steps.checkpoint_is_steps.Goals as goal

pub returns : goal.returns
returns g c = checkpoint_is_steps g.row.S.Denot c.snapshots_are_checkpoints.ensures
