use Rattle.std.proofs.Common.{◌≡◌, ◌≤◌, length}
use Rattle.wire.specs.Lists.{Begins}
use Rattle.node_seats.specs.Views.{IsSame}
use Rattle.node_seats.proofs.words.Words.raise_durable.Given as goal

abbrev pub invariant-loop : goal.invariant-loop
invariant-loop g l =
    (goal.iterator-loop g).can_next l.iterator' × (goal.iterator-loop g).is_finite l.iterator'
    × IsSame l.initial.seat l.seat
    × Begins l.initial.seat.view.durable l.seat.view.durable
    × Begins l.initial.seat.view.seen l.seat.view.seen
    × (length l.seat.view.durable ≤ length l.initial.seat.view.seen → l.seat.view.seen ≡ l.initial.seat.view.seen)
    × (l.seat.view.down ≡ l.initial.seat.view.down)
