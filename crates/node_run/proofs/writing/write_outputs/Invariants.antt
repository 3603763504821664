use Rattle.std.specs.Io.Buffered.{writer_contents}
use Rattle.wire.specs.Lists.{Begins}
use Rattle.node_seats.specs.Views.{IsSame}
use Rattle.node.specs.Callers.{StaysWith}
use Rattle.node_run.specs.Writing.{MayGo, WritesOnly}
use Rattle.node_run.proofs.writing.write_outputs.Given as goal

abbrev pub invariant-loop : goal.invariant-loop
invariant-loop g l =
    (goal.iterator-loop g).can_next l.iterator' × (goal.iterator-loop g).is_finite l.iterator'
    × StaysWith l.initial.caller l.caller
    × IsSame l.initial.caller.seat l.caller.seat
    × Begins l.initial.caller.seat.view.durable l.caller.seat.view.durable
    × WritesOnly (MayGo g.S.Sign.scheme l.initial.caller.node l.caller.seat.view) l.initial.sink.faults l.sink.faults
    (writer_contents g.W.Write.contents l.initial.sink.writer) (writer_contents g.W.Write.contents l.sink.writer)
