use Rattle.std.proofs.Common.{◌≡◌, ◌≤◌, length, ap, ◌∙◌, subst}
use Rattle.std.specs.Prelude.{◌||◌}
use Rattle.wire.specs.Lists.{Begins}
use Rattle.node_seats.proofs.Beginnings.{begins_trans}
use Rattle.node_seats.proofs.Same.{same_then, same_seat, same_heard, still_seen, once_informed, informed_down}
use Rattle.node_seats.proofs.words.Words.catch_up_durable.Goals as goal

pub loop-preserved : goal.loop-preserved
loop-preserved g c =
    let until = c.loop.invariant in
    let heard = c.inform.ensures.heard in
    let reads = c.read.ensures.reads in
    let turn = same_then c.loop.seat c.inform.new.to c.read.new.seat (same_heard c.loop.seat c.inform.new.to c.loop.other.view heard)
    (same_seat c.inform.new.to c.read.new.seat c.read.ensures.of reads.rest) in
    let seen = ap (λ s. s.view.seen) heard in
    let durable = subst (λ l. Begins l c.read.new.seat.view.durable) (ap (λ s. s.view.durable) heard) reads.durable in (
      tt,
      tt,
      c.inform.ensures.same ∙ until.2,
      same_then c.args.seat.now c.loop.seat c.read.new.seat until.3 turn,
      begins_trans c.args.seat.now.view.durable c.loop.seat.view.durable c.read.new.seat.view.durable until.4 durable,
      begins_trans c.args.seat.now.view.seen c.loop.seat.view.seen c.read.new.seat.view.seen until.5 (subst (λ l. Begins l c.read.new.seat.view.seen) seen reads.seen),
      still_seen c.args.seat.now.view c.loop.seat.view c.read.new.seat.view until.5 durable until.6
          (subst (λ l. length c.read.new.seat.view.durable ≤ length l → c.read.new.seat.view.seen ≡ l) seen reads.same),
      once_informed (informed_down c.args.seat.now.view.down c.args.other.now.view.down c.loop.seat.view.down c.read.new.seat.view.down until.7
          (ap (λ v. v.down) reads.rest ∙ ap (λ s. s.view.down) heard ∙ ap (λ o. c.loop.seat.view.down || o.view.down) until.2)),
    )
