use Rattle.std.proofs.Common.{ap, ◌∙◌}
use Rattle.node_seats.proofs.Beginnings.{begins_trans}
use Rattle.node_seats.proofs.Same.{same_then, same_seat, still_seen}
use Rattle.node_seats.proofs.words.Words.raise_durable.Goals as goal

pub loop-preserved : goal.loop-preserved
loop-preserved g c =
    let until = c.loop.invariant in
    let reads = c.settle.ensures.settles.lost c.if-settle-from.false in (
      tt,
      tt,
      same_then c.args.seat.now c.loop.seat c.settle.new.seat until.2 (same_seat c.loop.seat c.settle.new.seat c.settle.ensures.of reads.rest),
      begins_trans c.args.seat.now.view.durable c.loop.seat.view.durable c.settle.new.seat.view.durable until.3 reads.durable,
      begins_trans c.args.seat.now.view.seen c.loop.seat.view.seen c.settle.new.seat.view.seen until.4 reads.seen,
      still_seen c.args.seat.now.view c.loop.seat.view c.settle.new.seat.view until.4 reads.durable until.5 reads.same,
      ap (λ v. v.down) reads.rest ∙ until.6,
    )
