use Rattle.std.proofs.Common.{◌≡◌, true, false, sym, ap, ◌∙◌, subst}
use Rattle.node_seats.proofs.Same.{or_second}
use Rattle.node_shared.specs.Calls.{Stays}
use Rattle.node_shared.specs.Home.{IsAtHome}
use Rattle.node_shared.proofs.Called.{stays_informed, stays_read, stays_then, stays_same}
use Rattle.node_shared.proofs.Standing.{home_down, stays_up}
use Rattle.node_shared.proofs.node.Node.know_down.Goals as goal

pub returns-then-read_down-clause-home : goal.returns-then-read_down-clause-home
returns-then-read_down-clause-home g c =
    let reported = c.inform-then-read_down.ensures.heard in
    let knows = ap (λ s. s.view.down) c.read_down.ensures.down ∙ c.if-read_down.true in
    let first = ap (λ s. s) c.inform.ensures.same in
    let stays = subst (λ s. Stays s c.inform-then-read_down.new.to) first (stays_informed c.inform.new.from c.inform-then-read_down.new.to c.read_down.new.seat.view reported) in
    home_down c.args.self.now g.S.Sign.scheme c.args.locked.now.seat c.inform-then-read_down.new.to c.args.locked.now.book c.fail.new.self c.requires.home
    c.fail.ensures.down c.fail.ensures.stands stays (ap (λ s. s.view.down) reported ∙ or_second c.inform.new.from.view.down c.read_down.new.seat.view.down knows)

pub returns-then-read_down-clause-book : goal.returns-then-read_down-clause-book
returns-then-read_down-clause-book g c =
    let knows = ap (λ s. s.view.down) (c.inform-then-read_down.ensures.same ∙ c.read_down.ensures.down) ∙ c.if-read_down.true in
    c.fail.ensures.down ∙ ap (λ d. record c.args.locked.now.book { down = d }) (sym knows)

pub returns-then-read_down-clause-stays_locked : goal.returns-then-read_down-clause-stays_locked
returns-then-read_down-clause-stays_locked g c =
    subst (λ s. Stays s c.inform-then-read_down.new.to) c.inform.ensures.same
    (stays_informed c.inform.new.from c.inform-then-read_down.new.to c.read_down.new.seat.view c.inform-then-read_down.ensures.heard)

pub returns-then-read_down-clause-stays : goal.returns-then-read_down-clause-stays
returns-then-read_down-clause-stays g c =
    subst (λ s. Stays c.args.seat.now s) (sym c.inform-then-read_down.ensures.same)
    (stays_then c.args.seat.now c.inform.new.to c.read_down.new.seat (stays_informed c.args.seat.now c.inform.new.to c.args.locked.now.seat.view c.inform.ensures.heard)
    (stays_read c.inform.new.to c.read_down.new.seat c.read_down.result c.read_down.ensures.down c.read_down.ensures.stays))

pub returns-else-read_down-clause-home : goal.returns-else-read_down-clause-home
returns-else-read_down-clause-home g c = subst (λ s. IsAtHome g.S.Sign.scheme c.args.self.now s c.args.locked.now.book) (sym c.inform.ensures.same) c.requires.home

pub returns-else-read_down-clause-book : goal.returns-else-read_down-clause-book
returns-else-read_down-clause-book g c =
    let knows = ap (λ s. s.view.down) c.read_down.ensures.down ∙ c.if-read_down.false in
    let up : c.args.locked.now.book.down ≡ true → ⊥ = λ down.
    let reported = ap (λ s. s.view.down) c.inform.ensures.heard ∙ or_second c.args.seat.now.view.down c.args.locked.now.seat.view.down (c.requires.home.down down) in
    let bad : false ≡ true = sym c.if-read_down.false ∙ c.read_down.ensures.stays reported in cc in
    stays_up c.args.locked.now.book up ∙ ap (λ d. record c.args.locked.now.book { down = d }) (sym knows)

pub returns-else-read_down-clause-stays_locked : goal.returns-else-read_down-clause-stays_locked
returns-else-read_down-clause-stays_locked g c = subst (λ s. Stays c.args.locked.now.seat s) (sym c.inform.ensures.same) (stays_same c.args.locked.now.seat)

pub returns-else-read_down-clause-stays : goal.returns-else-read_down-clause-stays
returns-else-read_down-clause-stays g c =
    stays_then c.args.seat.now c.inform.new.to c.read_down.new.seat (stays_informed c.args.seat.now c.inform.new.to c.args.locked.now.seat.view c.inform.ensures.heard)
    (stays_read c.inform.new.to c.read_down.new.seat c.read_down.result c.read_down.ensures.down c.read_down.ensures.stays)
