use Rattle.std.proofs.Common.{sym}
use Rattle.cluster.proofs.cluster.Cluster.given_order.Goals as goal

pub returns-in-Some-clause-some : goal.returns-in-Some-clause-some
returns-in-Some-clause-some g c = (c.in-Some.member.now, sym c.in-Some.ensures, c.order.ensures)
