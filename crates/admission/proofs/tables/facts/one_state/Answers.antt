use Rattle.admission.proofs.OneState.{one_state}
use Rattle.admission.proofs.tables.facts.one_state.Goals as goal

pub returns : goal.returns
returns c = one_state
