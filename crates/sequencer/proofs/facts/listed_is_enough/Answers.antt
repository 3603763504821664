use Rattle.sequencer.proofs.Waves.{listed_is_enough}
use Rattle.sequencer.proofs.facts.listed_is_enough.Goals as goal

pub returns : goal.returns
returns c = listed_is_enough
