use Rattle.spec_checkpoint.proofs.NoFault.{sound_has_no_fault}
use Rattle.spec_checkpoint.proofs.sound_has_no_fault.Goals as goal

pub returns : goal.returns
returns c = sound_has_no_fault
