use Rattle.spec_world.proofs.Checkpoints.{snapshots_are_checkpoints}
use Rattle.spec_world.proofs.snapshots_are_checkpoints.Goals as goal

pub returns : goal.returns
returns c = snapshots_are_checkpoints
