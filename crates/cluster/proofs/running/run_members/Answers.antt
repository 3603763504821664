use Rattle.std.proofs.Common.{List, subst}
use Rattle.std.specs.List.{AllZip}
use Rattle.cluster.specs.Member.{MemberView}
use Rattle.cluster.specs.Threads.{HasRun}
use Rattle.cluster.specs.declared.worker.Worker.{Worker}
use Rattle.cluster.proofs.Acting.{if_ok_more, gathered}
use Rattle.cluster.proofs.running.run_members.Goals as goal

pub returns : goal.returns
returns g c =
    let run = HasRun g.S.Sign.scheme g.D.Disk.device (g.V.Verify.accepts c.args.verifier.now) c.args.turns in
    if_ok_more c.all_members.result _ _
    (λ members all.
    subst (λ (l : List (MemberView g.row.S.Denot g.row.D.Denot)). AllZip run l members.items) c.in_ok-workers.ensures
    (gathered run (λ (w : Worker g.row.S.Denot g.row.D.Denot g.row.G.Denot). w.member) c.in_ok-workers.workers.items c.in_ok-ended.ended.items
    members.items c.in_ok-ended.ensures all)) c.all_members.ensures
