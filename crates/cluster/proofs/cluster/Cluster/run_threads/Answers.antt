use Rattle.std.proofs.Common.{List, subst}
use Rattle.cluster.specs.Applying.{ran, IsDone}
use Rattle.cluster.specs.Cluster.{ClusterView}
use Rattle.cluster.specs.Threads.{Act}
use Rattle.cluster.proofs.Played.{ran_by}
use Rattle.cluster.proofs.cluster.Cluster.run_threads.Goals as goal

pub returns-clause-done : goal.returns-clause-done
returns-clause-done g c =
    let later = c.in_ok-members.members.items in
    subst (λ (v : ClusterView g.row.S.Denot g.row.D.Denot g.row.V.Denot). (acts : List (List Act))
    × IsDone g.S.Sign.scheme g.D.Disk.device (g.V.Verify.accepts v.verifier) v.members (ran c.args.turns acts) later) c.self.view_is
    (ran_by g.S.Sign.scheme g.D.Disk.device (g.V.Verify.accepts c.self.inside.verifier) c.args.turns c.self.inside.members.items later c.in_ok-members.ensures)
