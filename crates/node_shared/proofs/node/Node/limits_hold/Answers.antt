use Rattle.std.proofs.Common.{subst}
use Rattle.validator.specs.Setting.{node_of}
use Rattle.validator.specs.Standing.{StandSomewhere}
use Rattle.node_shared.specs.Home.{NodeView}
use Rattle.node_shared.proofs.node.Node.limits_hold.Goals as goal

pub returns : goal.returns
returns g c = subst (λ (n : NodeView g.row.S.Denot). StandSomewhere (node_of g.S.Sign.scheme n.setting) n.begun) c.self.view_is c.self.invariant.1
