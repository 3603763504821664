use Rattle.std.proofs.Common.{rules, subst, sym}
use Rattle.std.specs.Prelude.{All}
use Rattle.std.specs.Io.Buffered.{writer_contents}
use Rattle.node_seats.proofs.Beginnings.{begins_same, begins_trans}
use Rattle.node_seats.specs.Views.{IsSame}
use Rattle.node.specs.Callers.{StaysWith}
use Rattle.node_run.specs.Writing.{MayGo, WritesOnly}
use Rattle.node_run.proofs.Written.{both_written, may_all, may_go_yet, no_more, none_yet, only_put, weaker}
use Rattle.node_run.proofs.writing.write_due.Goals as goal

pub loop-init : goal.loop-init
loop-init g c =
    let scheme = g.S.Sign.scheme in
    let node = c.args.caller.now.node in
    let stays : StaysWith c.args.caller.now c.args.caller.now = search rules in
    let same : IsSame c.args.caller.now.seat c.args.caller.now.seat = search rules in (
      tt,
      tt,
      stays,
      same,
      begins_same c.args.caller.now.seat.view.durable,
      none_yet (MayGo scheme node c.args.caller.now.seat.view) c.args.sink.now.faults (writer_contents g.W.Write.contents c.args.sink.now.writer),
    )

pub loop-preserved : goal.loop-preserved
loop-preserved g c =
    let stays : StaysWith c.args.caller.now c.write_next.new.caller = search rules in
    let same : IsSame c.args.caller.now.seat c.write_next.new.caller.seat = search rules in
    let scheme = g.S.Sign.scheme in
    let node = c.args.caller.now.node in
    let later = c.write_next.new.caller.seat.view in
    let old = writer_contents g.W.Write.contents c.args.sink.now.writer in
    let cur = writer_contents g.W.Write.contents c.loop.sink.writer in
    let next = c.write_next.ensures.next c.if-not-write_next.false in
    let so_far = weaker (MayGo scheme node c.loop.caller.seat.view) (MayGo scheme node later) c.args.sink.now.faults c.loop.sink.faults old cur
    (may_go_yet scheme node c.loop.caller.seat.view later c.write_next.ensures.more) c.loop.invariant.5 in
    let all = may_all scheme c.loop.caller.node c.write_next.new.caller.seat next.outputs next.given in
    let may = subst (λ it. All (MayGo scheme it later) next.outputs) c.loop.invariant.2.node all in
    let now = writer_contents g.W.Write.contents c.write_next.new.sink.writer in (
      tt,
      tt,
      stays,
      same,
      begins_trans _ _ _ c.loop.invariant.4 c.write_next.ensures.more,
      both_written (MayGo scheme node later) c.args.sink.now.faults c.loop.sink.faults c.write_next.new.sink.faults old cur now so_far
          (only_put (MayGo scheme node later) next.outputs c.loop.sink.faults c.write_next.new.sink.faults cur now may next.puts),
    )

pub returns-then-not-write_next-clause-only : goal.returns-then-not-write_next-clause-only
returns-then-not-write_next-clause-only g c =
    let scheme = g.S.Sign.scheme in
    let node = c.args.caller.now.node in
    let later = c.write_next.new.caller.seat.view in
    let old = writer_contents g.W.Write.contents c.args.sink.now.writer in
    let so_far = weaker (MayGo scheme node c.loop.caller.seat.view) (MayGo scheme node later) c.args.sink.now.faults c.loop.sink.faults old (writer_contents g.W.Write.contents c.loop.sink.writer)
    (may_go_yet scheme node c.loop.caller.seat.view later c.write_next.ensures.more) c.loop.invariant.5 in
    let so_far_now = subst (λ sink. WritesOnly (MayGo scheme node later) c.args.sink.now.faults sink.faults old (writer_contents g.W.Write.contents sink.writer))
    (sym (c.write_next.ensures.none c.if-not-write_next.true)) so_far in
    no_more (MayGo scheme node later) c.args.sink.now.faults c.write_next.new.sink.faults c.flush.new.self.faults old
    (writer_contents g.W.Write.contents c.write_next.new.sink.writer) (writer_contents g.W.Write.contents c.flush.new.self.writer)
    so_far_now c.flush.ensures.broken c.flush.ensures.faults c.flush.ensures.bytes
