use Rattle.std.proofs.Common.{rules, subst}
use Rattle.std.specs.Io.Buffered.{writer_contents}
use Rattle.node_seats.proofs.Beginnings.{begins_same, begins_trans}
use Rattle.node_seats.specs.Views.{IsSame}
use Rattle.node.specs.Callers.{StaysWith}
use Rattle.node_run.specs.Writing.{MayGo, WritesOnly}
use Rattle.node_run.proofs.Written.{none_yet, weaker, both_written, may_go_yet}
use Rattle.node_run.proofs.writing.write_outputs.Goals as goal

pub loop-init : goal.loop-init
loop-init g c =
    let scheme = g.S.Sign.scheme in
    let node = c.args.caller.now.node in
    let stays : StaysWith c.args.caller.now c.args.caller.now = search rules in
    let same : IsSame c.args.caller.now.seat c.args.caller.now.seat = search rules in (
      tt,
      tt,
      stays,
      same,
      begins_same c.args.caller.now.seat.view.durable,
      none_yet (MayGo scheme node c.args.caller.now.seat.view) c.args.sink.now.faults (writer_contents g.W.Write.contents c.args.sink.now.writer),
    )

pub loop-preserved : goal.loop-preserved
loop-preserved g c =
    let stays : StaysWith c.args.caller.now c.write_due.new.caller = search rules in
    let same : IsSame c.args.caller.now.seat c.write_due.new.caller.seat = search rules in
    let scheme = g.S.Sign.scheme in
    let node = c.args.caller.now.node in
    let later = c.write_due.new.caller.seat.view in
    let old = writer_contents g.W.Write.contents c.args.sink.now.writer in
    let cur = writer_contents g.W.Write.contents c.loop.sink.writer in
    let new = writer_contents g.W.Write.contents c.write_due.new.sink.writer in
    let so_far = weaker (MayGo scheme node c.loop.caller.seat.view) (MayGo scheme node later) c.args.sink.now.faults c.loop.sink.faults old cur
    (may_go_yet scheme node c.loop.caller.seat.view later c.write_due.ensures.more) c.loop.invariant.5 in
    let then_on = subst (λ it. WritesOnly (MayGo scheme it later) c.loop.sink.faults c.write_due.new.sink.faults cur new)
    c.loop.invariant.2.node c.write_due.ensures.only in (
      tt,
      tt,
      stays,
      same,
      begins_trans _ _ _ c.loop.invariant.4 c.write_due.ensures.more,
      both_written (MayGo scheme node later) c.args.sink.now.faults c.loop.sink.faults c.write_due.new.sink.faults old cur new so_far then_on,
    )

pub returns-then-not-may_go_on-clause-stays : goal.returns-then-not-may_go_on-clause-stays
returns-then-not-may_go_on-clause-stays g c = let stays : StaysWith c.args.caller.now c.write_due.new.caller = search rules in stays

pub returns-then-not-may_go_on-clause-same : goal.returns-then-not-may_go_on-clause-same
returns-then-not-may_go_on-clause-same g c = let same : IsSame c.args.caller.now.seat c.write_due.new.caller.seat = search rules in same

pub returns-then-not-may_go_on-clause-more : goal.returns-then-not-may_go_on-clause-more
returns-then-not-may_go_on-clause-more g c = begins_trans _ _ _ c.loop.invariant.4 c.write_due.ensures.more

pub returns-then-not-may_go_on-clause-only : goal.returns-then-not-may_go_on-clause-only
returns-then-not-may_go_on-clause-only g c =
    let scheme = g.S.Sign.scheme in
    let node = c.args.caller.now.node in
    let later = c.write_due.new.caller.seat.view in
    let old = writer_contents g.W.Write.contents c.args.sink.now.writer in
    let cur = writer_contents g.W.Write.contents c.loop.sink.writer in
    let new = writer_contents g.W.Write.contents c.write_due.new.sink.writer in
    let so_far = weaker (MayGo scheme node c.loop.caller.seat.view) (MayGo scheme node later) c.args.sink.now.faults c.loop.sink.faults old cur
    (may_go_yet scheme node c.loop.caller.seat.view later c.write_due.ensures.more) c.loop.invariant.5 in
    let then_on = subst (λ it. WritesOnly (MayGo scheme it later) c.loop.sink.faults c.write_due.new.sink.faults cur new) c.loop.invariant.2.node c.write_due.ensures.only in
    both_written (MayGo scheme node later) c.args.sink.now.faults c.loop.sink.faults c.write_due.new.sink.faults old cur new so_far then_on
