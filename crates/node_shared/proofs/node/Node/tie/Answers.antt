use Rattle.std.proofs.Common.{sym, ap, ◌∙◌, subst}
use Rattle.std.specs.Prelude.{is_some}
use Rattle.wire.specs.Lists.{Begins}
use Rattle.node_seats.proofs.Beginnings.{begins_trans}
use Rattle.node_shared.proofs.Tied.{tied_with}
use Rattle.node_shared.proofs.node.Node.tie.Goals as goal

pub returns-clause-seen : goal.returns-clause-seen
returns-clause-seen g c = begins_trans _ _ _ c.know_all.ensures.learned.seen c.see_all.ensures.looked.more

pub returns-clause-tied : goal.returns-clause-tied
returns-clause-tied g c = λ so.
    let known = c.know_all.ensures in
    let seen = c.see_all.ensures in
    let locked = seen.locked ∙ known.locked in
    let counts = c.counts_as.ensures so in
    tied_with c.args.self.now g.S.Sign.scheme c.args.locked.now.seat c.args.locked.now.book c.requires.home c.see_all.new.seat c.args.flush.now.settled
    c.args.flush.now.taken c.args.flush.now.rewriting
    seen.looked.of_node
    (seen.seen ∙ ap (λ l. l.seat.view.seen) known.locked) (seen.looked.durable ∙ known.durable)
    (begins_trans _ _ _ (subst (λ l. Begins l c.know_all.new.seat.view.seen) (sym seen.looked.durable) known.learned.within) seen.looked.more)
    c.requires.rising (ap (λ l. l.book.settled) (sym locked) ∙ counts.0) (ap (λ l. l.book.taken) (sym locked) ∙ counts.1) (ap (λ l. is_some l.book.rewriting) (sym locked) ∙ counts.2)
