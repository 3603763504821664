use Rattle.std.proofs.Common.{rules, ◌≡◌}
use borrow.Author.Rules.{in_lives}
use Rattle.node_shared.specs.Home.{IsAtHome}
use Rattle.node_shared.proofs.Readings.{proposed}
use Rattle.node_shared.proofs.node.Node.propose.Goals as goal

pub returns-clause-header : goal.returns-clause-header
returns-clause-header g c =
    let home : IsAtHome g.S.Sign.scheme c.args.self.now c.acquire-turn.result.1.value.seat c.acquire-turn.result.1.value.book = search rules in
    let now : IsAtHome g.S.Sign.scheme c.args.self.now c.see_all.new.locked.seat c.see_all.new.locked.book = search rules in
    let seen : c.see_all.new.seat.view.seen ≡ c.see_all.new.locked.seat.view.seen = search rules in
    proposed c.args.self.now g.S.Sign.scheme c.see_all.new.locked.seat c.see_all.new.seat c.see_all.new.locked.book now
    seen c.propose-header.result c.validator.result.now c.validator.ensures c.propose-header.ensures.at

pub acquire-turn-requires : goal.acquire-turn-requires
acquire-turn-requires g c κs = λ h. simp (in_lives, h.0, h.1.0, h.1.1.0, h.1.1.1) (search rules)

pub deref_mut-locked-requires : goal.deref_mut-locked-requires
deref_mut-locked-requires g c κs = λ h. simp (in_lives, h) (search rules)
