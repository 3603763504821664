use Rattle.std.proofs.Common.{subst}
use Rattle.node_shared.specs.Answers.{GivesAll}
use Rattle.node.proofs.caller.Caller.collect_into.Goals as goal

pub returns-clause-gives : goal.returns-clause-gives
returns-clause-gives g c =
    subst (λ it. GivesAll g.S.Sign.scheme it.node c.collect_into.new.seat c.args.outputs.now.items c.collect_into.new.outputs.items)
    c.self.view_is c.collect_into.ensures.gives
