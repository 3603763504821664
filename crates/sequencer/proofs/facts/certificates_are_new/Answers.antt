use Rattle.sequencer.proofs.Naming.{certificates_are_new}
use Rattle.sequencer.proofs.facts.certificates_are_new.Goals as goal

pub returns : goal.returns
returns c = certificates_are_new
