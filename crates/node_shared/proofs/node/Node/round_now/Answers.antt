use Rattle.std.proofs.Common.{rules, ◌≡◌}
use borrow.Author.Rules.{in_lives}
use Rattle.node_shared.specs.Home.{IsAtHome}
use Rattle.spec_machine.specs.Machine.{round_in}
use Rattle.node_shared.proofs.Readings.{seen_of}
use Rattle.node_shared.proofs.node.Node.round_now.Goals as goal

pub returns-clause-round : goal.returns-clause-round
returns-clause-round g c =
    let home : IsAtHome g.S.Sign.scheme c.args.self.now c.acquire-turn.result.1.value.seat c.acquire-turn.result.1.value.book = search rules in
    let now : IsAtHome g.S.Sign.scheme c.args.self.now c.see_all.new.locked.seat c.see_all.new.locked.book = search rules in
    let seen : c.see_all.new.seat.view.seen ≡ c.see_all.new.locked.seat.view.seen = search rules in
    seen_of c.args.self.now g.S.Sign.scheme c.see_all.new.locked.seat c.see_all.new.seat c.see_all.new.locked.book now
    (λ node state. c.round_now-round.result ≡ round_in node state) seen c.round_now-round.ensures

pub acquire-turn-requires : goal.acquire-turn-requires
acquire-turn-requires g c κs = λ h. simp (in_lives, h.0, h.1.0, h.1.1.0, h.1.1.1) (search rules)

pub deref_mut-locked-requires : goal.deref_mut-locked-requires
deref_mut-locked-requires g c κs = λ h. simp (in_lives, h) (search rules)
