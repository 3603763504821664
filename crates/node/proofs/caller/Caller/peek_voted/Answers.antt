use Rattle.std.proofs.Common.{◌≡◌, subst}
use Rattle.spec_model.specs.States.{State}
use Rattle.node_shared.specs.Home.{IsBase, seen_in}
use Rattle.validator.specs.Setting.{node_of}
use Rattle.node.proofs.caller.Caller.peek_voted.Goals as goal

pub returns-clause-voted : goal.returns-clause-voted
returns-clause-voted g c =
    subst (λ it. (base : State) → IsBase g.S.Sign.scheme it.node base
    → c.peek_voted.result ≡ (seen_in (node_of g.S.Sign.scheme it.node.setting) base c.peek_voted.new.seat).votes c.args.round c.args.author.0)
    c.self.view_is c.peek_voted.ensures.voted
