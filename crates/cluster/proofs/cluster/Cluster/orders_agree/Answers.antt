use Rattle.std.proofs.Common.{refl}
use Rattle.cluster.proofs.Following.{given_orders_agree}
use Rattle.cluster.proofs.cluster.Cluster.orders_agree.Goals as goal

pub returns : goal.returns
returns g c =
    given_orders_agree g.S.Sign.scheme g.D.Disk.device (g.V.Verify.accepts c.args.self.now.verifier) c.args.self.now.members (λ setting. refl) (λ setting. refl) c.agreement.ensures.side_by_side
