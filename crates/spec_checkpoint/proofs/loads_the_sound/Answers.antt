use Rattle.spec_checkpoint.proofs.Loadable.{loads_the_sound}
use Rattle.spec_checkpoint.proofs.loads_the_sound.Goals as goal

pub returns : goal.returns
returns c = loads_the_sound
