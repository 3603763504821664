use Rattle.std.proofs.Common.{rules, ◌≡◌, subst}
use borrow.Author.Rules.{in_lives}
use Rattle.spec_model.specs.States.{State}
use Rattle.validator.specs.Setting.{node_of}
use Rattle.node_shared.specs.Home.{IsAtHome}
use Rattle.validator.specs.Standing.{ValidatorView, AreAtSound}
use Rattle.book.specs.Book.{state_in}
use Rattle.node_shared.proofs.Readings.{seen_of}
use Rattle.node_shared.proofs.node.Node.peek_voted.Goals as goal

pub returns-clause-voted : goal.returns-clause-voted
returns-clause-voted g c =
    let home : IsAtHome g.S.Sign.scheme c.args.self.now c.acquire-turn.result.1.value.seat c.acquire-turn.result.1.value.book = search rules in
    let now : IsAtHome g.S.Sign.scheme c.args.self.now c.see_all.new.locked.seat c.see_all.new.locked.book = search rules in
    let seen : c.see_all.new.seat.view.seen ≡ c.see_all.new.locked.seat.view.seen = search rules in
    let reported = subst (λ (v : ValidatorView g.row.S.Denot). (state : State) → AreAtSound (node_of g.S.Sign.scheme v.setting) v.tables state
    → c.voted-voted.result ≡ state.votes c.args.round c.args.author.0) c.validator.ensures c.voted-voted.ensures.at in
    seen_of c.args.self.now g.S.Sign.scheme c.see_all.new.locked.seat c.see_all.new.seat c.see_all.new.locked.book now
    (λ node state. c.voted-voted.result ≡ state.votes c.args.round c.args.author.0) seen
    (λ run stands. reported (state_in (node_of g.S.Sign.scheme c.see_all.new.locked.book.validator.setting) run) stands.at)

pub acquire-turn-requires : goal.acquire-turn-requires
acquire-turn-requires g c κs = λ h. simp (in_lives, h.0, h.1.0, h.1.1.0, h.1.1.1) (search rules)

pub deref_mut-locked-requires : goal.deref_mut-locked-requires
deref_mut-locked-requires g c κs = λ h. simp (in_lives, h) (search rules)
