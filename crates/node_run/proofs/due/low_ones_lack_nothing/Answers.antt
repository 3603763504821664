use Rattle.node_run.proofs.Asking.{lacks_nothing_below}
use Rattle.node_run.proofs.due.low_ones_lack_nothing.Goals as goal

pub returns : goal.returns
returns c = lacks_nothing_below
