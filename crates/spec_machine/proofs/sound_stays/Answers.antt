use Rattle.spec_machine.proofs.Staying.{sound_stays}
use Rattle.spec_machine.proofs.sound_stays.Goals as goal

pub returns : goal.returns
returns c = sound_stays
