use Rattle.std.proofs.Common.{sym}
use Rattle.opening.proofs.Reporting.{ok_weaker}
use Rattle.cluster.proofs.cluster.Cluster.propose.Goals as goal

pub returns-in-Some-clause-ok : goal.returns-in-Some-clause-ok
returns-in-Some-clause-ok g c = ok_weaker c.propose.result _ _ (λ found is. (c.in-Some.member.now, sym c.in-Some.ensures, is)) c.propose.ensures.ok
