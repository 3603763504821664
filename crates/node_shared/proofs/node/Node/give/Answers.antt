use Rattle.std.proofs.Common.{ap, sym, ◌∙◌}
use Rattle.std.specs.Prelude.{drop, is_some, if◌then◌else◌}
use Rattle.node_shared.proofs.Called.{learned_stays, gives_both}
use Rattle.node_shared.proofs.Readings.{given, put_out_by, gives_next, none_given}
use Rattle.node_shared.proofs.Standing.{home_where, queue_setting, queue_down, queue_rewriting, queue_taken, queue_left}
use Rattle.node_shared.proofs.node.Node.give.Goals as goal

pub returns-clause-home : goal.returns-clause-home
returns-clause-home g c =
    home_where c.args.self.now g.S.Sign.scheme c.know_down.new.locked.seat c.know_down.new.locked.book c.release.new.self c.know_down.ensures.home
    (queue_setting c.know_down.new.locked.book c.release.new.self (drop 1 c.know_down.new.locked.book.queue) (is_some c.release.result) c.release.ensures.queue)
    (λ down. sym (queue_down c.know_down.new.locked.book c.release.new.self (drop 1 c.know_down.new.locked.book.queue) (is_some c.release.result)
    c.release.ensures.queue) ∙ down)
    (queue_rewriting c.know_down.new.locked.book c.release.new.self (drop 1 c.know_down.new.locked.book.queue) (is_some c.release.result) c.release.ensures.queue)
    (queue_taken c.know_down.new.locked.book c.release.new.self (drop 1 c.know_down.new.locked.book.queue) (is_some c.release.result) c.release.ensures.queue)
    c.release.ensures.stands

pub returns-clause-learned : goal.returns-clause-learned
returns-clause-learned g c =
    learned_stays g.S.Sign.scheme c.args.self.now c.args.seat.now c.know_all.new.seat c.know_down.new.seat c.know_all.ensures.learned c.know_down.ensures.stays

pub returns-clause-gives : goal.returns-clause-gives
returns-clause-gives g c =
    let reported = c.know_down.ensures in
    let durable = reported.stays.durable ∙ c.know_all.ensures.durable ∙ ap (λ l. l.seat.view.durable) (sym c.know_all.ensures.locked) ∙ sym reported.stays_locked.durable in
    gives_both g.S.Sign.scheme c.args.self.now _ c.release.result
    (given c.args.self.now g.S.Sign.scheme c.know_down.new.locked.seat c.know_down.new.seat c.know_down.new.locked.book reported.home durable c.release.result c.release.ensures.goes_out)
    (put_out_by c.args.self.now g.S.Sign.scheme c.know_down.new.locked.seat c.know_down.new.seat c.know_down.new.locked.book reported.home durable c.release.result c.release.ensures.goes_out)

pub returns-clause-next : goal.returns-clause-next
returns-clause-next g c = gives_next c.args.locked.now.book c.know_all.new.locked.book c.know_down.new.locked.book _ c.release.result
    (ap (λ l. l.book) c.know_all.ensures.locked) c.know_down.ensures.book c.release.ensures.output

pub returns-clause-down : goal.returns-clause-down
returns-clause-down g c = none_given c.know_all.new.locked.book c.know_down.new.locked.book _ c.release.result c.know_down.ensures.book c.release.ensures.output

pub returns-clause-queue : goal.returns-clause-queue
returns-clause-queue g c =
    queue_left c.know_down.new.locked.book c.release.new.self (drop 1 c.know_down.new.locked.book.queue) (is_some c.release.result) c.release.ensures.queue
    ∙ ap (λ q. if is_some c.release.result then drop 1 q else q) (ap (λ b. b.queue) c.know_down.ensures.book ∙ ap (λ l. l.book.queue) c.know_all.ensures.locked)
