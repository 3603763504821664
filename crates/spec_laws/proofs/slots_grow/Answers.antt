use Rattle.spec_laws.proofs.SlotsGrow.{slots_grow}
use Rattle.spec_laws.proofs.slots_grow.Goals as goal

pub returns : goal.returns
returns c = slots_grow
