use Rattle.std.proofs.Common.{rules, ap}
use Rattle.node_shared.proofs.Groups.{settles_next, home_settled}
use Rattle.node_shared.proofs.Tied.{settles_taken}
use Rattle.node_shared.proofs.node.Node.settle_tied.Goals as goal

pub settle-requires : goal.settle-requires
settle-requires g c =
    settles_next c.args.self.now g.S.Sign.scheme c.args.locked.now.seat c.args.locked.now.book c.args.flush.now c.requires.home c.requires.tied
    c.args.synced c.requires.group c.requires.checkpoint

pub returns-clause-home : goal.returns-clause-home
returns-clause-home g c =
    home_settled c.args.self.now g.S.Sign.scheme c.args.locked.now.seat c.args.locked.now.book c.args.flush.now c.requires.home c.requires.tied
    c.args.synced c.requires.group c.requires.checkpoint c.settle.new.self _ (search rules) (ap (λ b. b.down) c.settle.ensures.rest)
    (ap (λ b. b.rewriting) c.settle.ensures.rest) c.settle.ensures.stands (search rules) (search rules) (search rules)

pub returns-clause-settles : goal.returns-clause-settles
returns-clause-settles g c =
    settles_taken c.args.self.now c.args.flush.now c.requires.tied.flush_of c.raise_durable.new.seat c.catch_up_durable.new.other c.raise_durable.ensures.same c.raise_durable.ensures.seen
    c.raise_durable.ensures.durable c.catch_up_durable.ensures.other
