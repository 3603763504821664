use Rattle.spec_machine.proofs.FreshSound.{fresh_is_sound}
use Rattle.spec_machine.proofs.Staying.{kept_from}
use Rattle.spec_machine.proofs.kept_is_sound.Goals as goal

pub returns : goal.returns
returns c = kept_from fresh_is_sound
