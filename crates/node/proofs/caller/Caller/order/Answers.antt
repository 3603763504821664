use Rattle.std.proofs.Common.{◌≡◌, subst}
use Rattle.std.specs.Prelude.{drop, IfOk}
use Rattle.node_shared.specs.Home.{IsBase, durable_in}
use Rattle.spec_model.specs.States.{State}
use Rattle.validator.specs.Setting.{node_of}
use Rattle.node.proofs.caller.Caller.order.Goals as goal

pub returns-clause-order : goal.returns-clause-order
returns-clause-order g c =
    subst (λ it. IfOk c.order.result (λ digests. (base : State) → IsBase g.S.Sign.scheme it.node base
    → digests.items ≡ drop c.args.from (durable_in (node_of g.S.Sign.scheme it.node.setting) base c.order.new.seat).order))
    c.self.view_is c.order.ensures.order
