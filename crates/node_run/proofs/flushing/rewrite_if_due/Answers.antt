use Rattle.std.proofs.Common.{rules, ◌≡◌, Err}
use Rattle.flusher.specs.Rounds.{journal_of}
use Rattle.node_run.specs.Rewriting.{IsDue, length_in, without_number}
use Rattle.node_run.proofs.Rewritten.{some_every, was_due}
use Rattle.node_run.proofs.flushing.rewrite_if_due.Goals as goal

-- the checkpoint failed
pub returns-in_err-rewritten : goal.returns-in_err-rewritten
returns-in_err-rewritten g c =
    let checkpoint = c.checkpoint-rewritten in
    let failed : checkpoint.result ≡ Err c.in_err-rewritten.field-0.0 = search rules in
    let same : c.from_residual.result ≡ without_number checkpoint.result = search rules in
    let due : IsDue c.args.rule.now (length_in g.D.Disk.device (journal_of c.args.rounds.now.flusher)) = search rules in
    let pair = c.requires.pair (some_every c.args.rule.now.every c.args.rule.now.since (length_in g.D.Disk.device (journal_of c.args.rounds.now.flusher)) due) in
    record {
      rewrites = was_due g.S.Sign.scheme g.D.Disk.device c.args.rule.now c.args.rule.now c.args.rounds.now checkpoint.new.self checkpoint.result c.from_residual.result pair due same
          checkpoint.ensures.node
          checkpoint.ensures.down checkpoint.ensures.reported checkpoint.ensures.flushes checkpoint.ensures.swapped checkpoint.ensures.writes (search rules) (search rules) checkpoint.ensures.room
          (checkpoint.ensures.alive c.requires.up);
    }
