use Rattle.admission.proofs.HeadersAfter.{table_after, others_at}
use Rattle.admission.proofs.assemblies.facts.others_come.Goals as goal

pub returns : goal.returns
returns c node state event before step at other =
    table_after c.floors_agree.ensures node state event before step (others_at node state event.message before other at)
