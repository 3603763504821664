use Rattle.std.proofs.Common.{ap, ◌∙◌, subst}
use Rattle.std.specs.Prelude.{◌||◌}
use Rattle.wire.specs.Lists.{Begins}
use Rattle.node_seats.proofs.Beginnings.{begins_trans}
use Rattle.node_seats.proofs.Same.{same_then, same_seat, same_heard, looked, once_informed, informed_down}
use Rattle.node_seats.proofs.words.Words.catch_up.Goals as goal

pub loop-preserved : goal.loop-preserved
loop-preserved g c =
    let until = c.loop.invariant in
    let heard = c.inform.ensures.heard in
    let looks = c.look.ensures.looks in
    let turn = same_then c.loop.seat c.inform.new.to c.look.new.seat (same_heard c.loop.seat c.inform.new.to c.loop.other.view heard)
    (same_seat c.inform.new.to c.look.new.seat c.look.ensures.of (looked c.inform.new.to.view c.look.new.seat.view looks.rest)) in (
      tt,
      tt,
      c.inform.ensures.same ∙ until.2,
      same_then c.args.seat.now c.loop.seat c.look.new.seat until.3 turn,
      ap (λ v. v.durable) looks.rest ∙ ap (λ s. s.view.durable) heard ∙ until.4,
      begins_trans c.args.seat.now.view.seen c.loop.seat.view.seen c.look.new.seat.view.seen until.5
          (subst (λ l. Begins l c.look.new.seat.view.seen) (ap (λ s. s.view.seen) heard) looks.seen),
      once_informed (informed_down c.args.seat.now.view.down c.args.other.now.view.down c.loop.seat.view.down c.look.new.seat.view.down until.6
          (ap (λ v. v.down) looks.rest ∙ ap (λ s. s.view.down) heard ∙ ap (λ o. c.loop.seat.view.down || o.view.down) until.2)),
    )
