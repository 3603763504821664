use Rattle.spec_machine.proofs.FreshSound.{fresh_is_sound}
use Rattle.spec_machine.proofs.fresh_is_sound.Goals as goal

pub returns : goal.returns
returns c = fresh_is_sound
