use Rattle.std.proofs.Common.{◌≡◌, subst}
use Rattle.std.specs.Prelude.{IfOk}
use Rattle.spec_machine.specs.Machine.{proposed}
use Rattle.spec_model.specs.States.{State}
use Rattle.node_shared.specs.Home.{IsBase, seen_in}
use Rattle.validator.specs.Setting.{node_of}
use Rattle.node.proofs.caller.Caller.propose.Goals as goal

pub returns-clause-header : goal.returns-clause-header
returns-clause-header g c =
    subst (λ it. IfOk c.propose.result (λ found. (base : State) → IsBase g.S.Sign.scheme it.node base
    → found ≡ proposed (node_of g.S.Sign.scheme it.node.setting) (seen_in (node_of g.S.Sign.scheme it.node.setting) base c.propose.new.seat)))
    c.self.view_is c.propose.ensures.header
