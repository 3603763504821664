use Rattle.std.proofs.Common.{◌≡◌, ◌≤◌, length}
use Rattle.wire.specs.Lists.{Begins}
use Rattle.node_seats.specs.Views.{IsSame}
use Rattle.node_seats.proofs.Same.{IsInformedDown}
use Rattle.node_seats.proofs.words.Words.catch_up_durable.Given as goal

abbrev pub invariant-loop : goal.invariant-loop
invariant-loop g l =
    (goal.iterator-loop g).can_next l.iterator' × (goal.iterator-loop g).is_finite l.iterator'
    × (l.other ≡ l.initial.other)
    × IsSame l.initial.seat l.seat
    × Begins l.initial.seat.view.durable l.seat.view.durable
    × Begins l.initial.seat.view.seen l.seat.view.seen
    × (length l.seat.view.durable ≤ length l.initial.seat.view.seen → l.seat.view.seen ≡ l.initial.seat.view.seen)
    × IsInformedDown l.initial.seat.view.down l.initial.other.view.down l.seat.view.down
