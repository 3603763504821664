use Rattle.std.proofs.Common.{◌-◌, ap, sym, ◌∙◌}
use Rattle.std.specs.VecDeque.{deque_len, deque_capacity}
use Rattle.book.specs.Book.{BookView}
use Rattle.node_shared.proofs.Called.{learned_stays}
use Rattle.node_shared.proofs.Collected.{gives_all}
use Rattle.node_shared.proofs.Readings.{with_down, moves_next, moves_none, keeps_rest}
use Rattle.node_shared.proofs.Standing.{home_where}
use Rattle.node_shared.proofs.node.Node.give_into.Goals as goal

pub returns-clause-next : goal.returns-clause-next
returns-clause-next g c =
    let outputs = c.args.outputs.now in
    let down = c.know_down.new.seat.view.down in
    let is = with_down c.args.locked.now.book c.know_all.new.locked.book c.know_down.new.locked.book down (ap (λ l. l.book) c.know_all.ensures.locked) c.know_down.ensures.book in
    moves_next c.args.locked.now.book c.know_down.new.locked.book (deque_capacity outputs - deque_len outputs) down is outputs.items
    c.release_into.new.outputs.items c.release_into.ensures.outputs

pub returns-clause-home : goal.returns-clause-home
returns-clause-home g c =
    let is = c.release_into.ensures.queue in
    home_where c.args.self.now g.S.Sign.scheme c.know_down.new.locked.seat c.know_down.new.locked.book c.release_into.new.self c.know_down.ensures.home
    (ap (λ (b : BookView g.row.S.Denot). b.validator.setting) is) (λ down. sym (ap (λ (b : BookView g.row.S.Denot). b.down) is) ∙ down)
    (ap (λ (b : BookView g.row.S.Denot). b.rewriting) is) (ap (λ (b : BookView g.row.S.Denot). b.taken) is) c.release_into.ensures.stands

pub returns-clause-learned : goal.returns-clause-learned
returns-clause-learned g c =
    learned_stays g.S.Sign.scheme c.args.self.now c.args.seat.now c.know_all.new.seat c.know_down.new.seat c.know_all.ensures.learned c.know_down.ensures.stays

pub returns-clause-gives : goal.returns-clause-gives
returns-clause-gives g c =
    let reported = c.know_down.ensures in
    let outputs = c.args.outputs.now in
    let book = c.know_down.new.locked.book in
    let durable = reported.stays.durable ∙ c.know_all.ensures.durable ∙ ap (λ l. l.seat.view.durable) (sym c.know_all.ensures.locked) ∙ sym reported.stays_locked.durable in
    gives_all c.args.self.now g.S.Sign.scheme c.know_down.new.locked.seat c.know_down.new.seat book reported.home durable (deque_capacity outputs - deque_len outputs)
    c.release_into.ensures.goes_out outputs.items c.release_into.new.outputs.items c.release_into.ensures.outputs

pub returns-clause-queue : goal.returns-clause-queue
returns-clause-queue g c =
    let outputs = c.args.outputs.now in
    let down = c.know_down.new.seat.view.down in
    let is = with_down c.args.locked.now.book c.know_all.new.locked.book c.know_down.new.locked.book down (ap (λ l. l.book) c.know_all.ensures.locked) c.know_down.ensures.book in
    keeps_rest c.args.locked.now.book c.know_down.new.locked.book (deque_capacity outputs - deque_len outputs) down is c.release_into.new.self.queue
    (ap (λ (b : BookView g.row.S.Denot). b.queue) c.release_into.ensures.queue)

pub returns-clause-down : goal.returns-clause-down
returns-clause-down g c =
    let outputs = c.args.outputs.now in
    let down = c.know_down.new.seat.view.down in
    let is = with_down c.args.locked.now.book c.know_all.new.locked.book c.know_down.new.locked.book down (ap (λ l. l.book) c.know_all.ensures.locked) c.know_down.ensures.book in
    moves_none c.args.locked.now.book c.know_down.new.locked.book (deque_capacity outputs - deque_len outputs) down is outputs.items
    c.release_into.new.outputs.items c.release_into.ensures.outputs
