use Rattle.sequencer.proofs.ByHistory.{chains_by_history}
use Rattle.sequencer.proofs.facts.chains_by_history.Goals as goal

pub returns : goal.returns
returns c = chains_by_history
