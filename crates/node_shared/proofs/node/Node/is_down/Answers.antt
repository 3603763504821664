use Rattle.node_shared.proofs.Called.{learned_stays, stays_read}
use Rattle.node_shared.proofs.node.Node.is_down.Goals as goal

pub returns-clause-learned : goal.returns-clause-learned
returns-clause-learned g c =
    learned_stays g.S.Sign.scheme c.args.self.now c.args.seat.now c.synced.new.seat c.read_down.new.seat c.synced.ensures.learned
    (stays_read c.synced.new.seat c.read_down.new.seat c.read_down.result c.read_down.ensures.down c.read_down.ensures.stays)
