use Rattle.sequencer.proofs.Staying.{sequence_stays}
use Rattle.sequencer.proofs.facts.sequence_stays.Goals as goal

pub returns : goal.returns
returns c = sequence_stays
