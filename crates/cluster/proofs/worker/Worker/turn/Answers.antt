use Rattle.std.proofs.Common.{sym, subst}
use Rattle.cluster.specs.Member.{MemberView}
use Rattle.cluster.specs.Threads.{HasRun}
use Rattle.cluster.proofs.Acting.{on_ok, run_on}
use Rattle.cluster.proofs.worker.Worker.turn.Goals as goal

pub returns : goal.returns
returns g c =
    let accepts = g.V.Verify.accepts c.args.verifier.now in
    on_ok c.send_new.result (subst (λ (m : MemberView g.row.S.Denot g.row.D.Denot). HasRun g.S.Sign.scheme g.D.Disk.device accepts 1 c.args.self.now.member m) (sym c.send_new.ensures)
    (run_on g.S.Sign.scheme g.D.Disk.device accepts 0 1 c.args.self.now.member c.take_all.new.member c.make_round.new.member c.in_ok-take_all.ensures (c.in_ok-make_round.ensures accepts)))
