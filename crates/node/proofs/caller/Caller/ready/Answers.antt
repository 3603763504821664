use Rattle.std.proofs.Common.{◌≡◌, subst}
use Rattle.spec_machine.specs.Machine.{is_ready}
use Rattle.spec_model.specs.States.{State}
use Rattle.node_shared.specs.Home.{IsBase, seen_in}
use Rattle.validator.specs.Setting.{node_of}
use Rattle.node.proofs.caller.Caller.ready.Goals as goal

pub returns-clause-ready : goal.returns-clause-ready
returns-clause-ready g c =
    subst (λ it. (base : State) → IsBase g.S.Sign.scheme it.node base
    → c.ready.result ≡ is_ready (node_of g.S.Sign.scheme it.node.setting) (seen_in (node_of g.S.Sign.scheme it.node.setting) base c.ready.new.seat) c.args.event.now)
    c.self.view_is c.ready.ensures.ready
