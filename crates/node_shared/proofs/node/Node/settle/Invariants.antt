use Rattle.std.proofs.Common.{◌≡◌}
use Rattle.wire.specs.Lists.{Begins}
use Rattle.node_seats.specs.Views.{IsSame}
use Rattle.node_shared.proofs.node.Node.settle.Given as goal

abbrev pub invariant-loop : goal.invariant-loop
invariant-loop g l =
    (goal.iterator-loop g).can_next l.iterator' × (goal.iterator-loop g).is_finite l.iterator'
    × IsSame l.initial.flush.seat l.flush.seat
    × (l.flush.settled ≡ l.initial.flush.settled)
    × (l.flush.taken ≡ l.initial.flush.taken)
    × (l.flush.rewriting ≡ l.initial.flush.rewriting)
    × Begins l.initial.flush.seat.view.durable l.flush.seat.view.durable
    × Begins l.initial.flush.seat.view.seen l.flush.seat.view.seen
