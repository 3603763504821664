use Rattle.spec_checkpoint.proofs.Sound.{no_fault_is_sound}
use Rattle.spec_checkpoint.proofs.no_fault_is_sound.Goals as goal

pub returns : goal.returns
returns c = no_fault_is_sound
