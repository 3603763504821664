use Rattle.checkpoint.proofs.KeptState.{checkpoint_is_state}
use Rattle.checkpoint.proofs.checkpoint_is_state.Goals as goal

pub returns : goal.returns
returns c = checkpoint_is_state
