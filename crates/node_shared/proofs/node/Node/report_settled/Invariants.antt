use Rattle.spec_machine.specs.After.{IsLegalAfter}
use Rattle.spec_model.specs.States.{State}
use Rattle.validator.specs.Setting.{node_of}
use Rattle.validator.specs.Standing.{AreAtSound}
use Rattle.node_shared.proofs.node.Node.report_settled.Given as goal

abbrev pub ghosts-catch_up_durable : goal.ghosts-catch_up_durable
ghosts-catch_up_durable g a = record {
  judged = λ events. (base : State) → AreAtSound (node_of g.S.Sign.scheme a.self.now.key.setting) a.self.now.key.tables base
      → IsLegalAfter (node_of g.S.Sign.scheme a.self.now.key.setting) base events;
}
