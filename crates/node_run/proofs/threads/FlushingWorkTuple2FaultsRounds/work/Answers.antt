use Rattle.std.proofs.Common.{subst}
use Rattle.node_run.proofs.threads.FlushingWorkTuple2FaultsRounds.work.Goals as goal
use Rattle.node_run.specs.Runs.{HasFlushed}

pub returns : goal.returns
returns g c =
    let all = c.flush_all-faults in
    subst (λ work. HasFlushed g.S.Sign.scheme g.D.Disk.device work.rule work.rounds all.new.rounds all.result) c.self.view_is (record {
      node = all.ensures.node;
      reported = all.ensures.journal.rounds;
      fell = all.ensures.journal.fell;
      is_reported = all.ensures.journal.reported;
      full = all.ensures.journal.full;
      others = all.ensures.others;
      settles = all.ensures.settles;
      any_moment = all.ensures.any_moment;
      at_end = all.ensures.at_end;
      by_rule = all.ensures.by_rule;
    })
