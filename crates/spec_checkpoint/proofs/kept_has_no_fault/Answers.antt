use Rattle.spec_checkpoint.proofs.NoFault.{kept_has_no_fault}
use Rattle.spec_checkpoint.proofs.kept_has_no_fault.Goals as goal

pub returns : goal.returns
returns c = kept_has_no_fault c.kept_is_sound.ensures
