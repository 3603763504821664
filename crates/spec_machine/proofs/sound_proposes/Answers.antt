use Rattle.spec_machine.proofs.SoundProposing.{sound_proposes}
use Rattle.spec_machine.proofs.sound_proposes.Goals as goal

pub returns : goal.returns
returns c = sound_proposes
