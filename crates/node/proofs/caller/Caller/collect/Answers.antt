use Rattle.std.proofs.Common.{subst}
use Rattle.std.specs.Prelude.{IfSome}
use Rattle.node_shared.specs.Answers.{Gives}
use Rattle.node.proofs.caller.Caller.collect.Goals as goal

pub returns-clause-gives : goal.returns-clause-gives
returns-clause-gives g c =
    subst (λ it. IfSome c.collect.result (λ output. Gives g.S.Sign.scheme it.node c.collect.new.seat output))
    c.self.view_is c.collect.ensures.gives
