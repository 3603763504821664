use Rattle.std.specs.Io.Buffered.{writer_contents}
use Rattle.node_run.proofs.Written.{faults_at_end, fine_before, has_written}
use Rattle.node_run.proofs.threads.WritingWorkWrote.work.Goals as goal
use Rattle.node_run.specs.Writing.{MayGo}

pub returns : goal.returns
returns g c =
    let before = c.args.self.sink.faults in
    let mid = c.write_outputs.new.sink in
    let old = writer_contents g.W.Write.contents c.args.self.sink.writer in
    let cur = writer_contents g.W.Write.contents mid.writer in
    let finish = c.finish-writer in (
      c.write_outputs.ensures.stays,
      has_written (MayGo g.S.Sign.scheme c.args.self.caller.node c.write_outputs.new.caller.seat.view) _ before mid.faults old cur (g.W.Write.contents finish.result.1)
          c.write_outputs.ensures.only finish.ensures.part (λ fine. (fine_before mid.faults.output finish.result.0.output finish.ensures.broken fine, finish.ensures.whole fine)),
      faults_at_end before mid.faults finish.result.0 c.write_outputs.ensures.only.others finish.ensures.faults,
    )
