use Rattle.std.proofs.Common.{◌≡◌}
use Rattle.wire.specs.Lists.{Begins}
use Rattle.node_seats.specs.Views.{IsSame}
use Rattle.node_seats.proofs.words.Words.raise.Given as goal

abbrev pub invariant-loop : goal.invariant-loop
invariant-loop g l =
    (goal.iterator-loop g).can_next l.iterator' × (goal.iterator-loop g).is_finite l.iterator'
    × IsSame l.initial.seat l.seat
    × (l.seat.view.durable ≡ l.initial.seat.view.durable)
    × (l.seat.view.down ≡ l.initial.seat.view.down)
    × Begins l.initial.seat.view.seen l.seat.view.seen
