use Rattle.std.proofs.Common.{ap, ◌∙◌}
use Rattle.node_seats.proofs.Beginnings.{begins_trans}
use Rattle.node_seats.proofs.Same.{same_then, same_seat, looked}
use Rattle.node_seats.proofs.words.Words.raise.Goals as goal

pub loop-preserved : goal.loop-preserved
loop-preserved g c =
    let until = c.loop.invariant in
    let looks = c.accept.ensures.accepts.lost c.if-accept-from.false in (
      tt,
      tt,
      same_then c.args.seat.now c.loop.seat c.accept.new.seat until.2 (same_seat c.loop.seat c.accept.new.seat c.accept.ensures.of (looked c.loop.seat.view c.accept.new.seat.view looks.rest)),
      ap (λ v. v.durable) looks.rest ∙ until.3,
      ap (λ v. v.down) looks.rest ∙ until.4,
      begins_trans c.args.seat.now.view.seen c.loop.seat.view.seen c.accept.new.seat.view.seen until.5 looks.seen,
    )
