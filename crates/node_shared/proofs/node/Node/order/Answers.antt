use Rattle.std.proofs.Common.{rules, ap, sym, ◌∙◌}
use borrow.Author.Rules.{in_lives}
use Rattle.node_shared.proofs.Called.{learned_stays}
use Rattle.node_shared.proofs.Readings.{ordered}
use Rattle.node_shared.proofs.node.Node.order.Goals as goal

pub returns-clause-learned : goal.returns-clause-learned
returns-clause-learned g c =
    learned_stays g.S.Sign.scheme c.args.self.now c.args.seat.now c.know_all.new.seat c.know_down.new.seat c.know_all.ensures.learned c.know_down.ensures.stays

pub returns-clause-order : goal.returns-clause-order
returns-clause-order g c =
    let reported = c.know_down.ensures in
    ordered c.args.self.now g.S.Sign.scheme c.know_down.new.locked.seat c.know_down.new.seat c.know_down.new.locked.book reported.home
    (reported.stays.durable ∙ c.know_all.ensures.durable ∙ ap (λ l. l.seat.view.durable) (sym c.know_all.ensures.locked) ∙ sym reported.stays_locked.durable) _ c.args.from
    c.order-order.result c.order-order.ensures.order

pub release-requires-clause-fits : goal.release-requires-clause-fits
release-requires-clause-fits g c = rw (c.self.invariant.0, c.self.view_is) c.know_down.ensures.home

pub acquire-turn-requires : goal.acquire-turn-requires
acquire-turn-requires g c κs = λ h. simp (in_lives, h.0, h.1.0, h.1.1.0, h.1.1.1) (search rules)

pub deref_mut-locked-requires : goal.deref_mut-locked-requires
deref_mut-locked-requires g c κs = λ h. simp (in_lives, h) (search rules)
