use Rattle.std.proofs.Common.{subst}
use Rattle.spec_machine.specs.After.{IsLegalAfter}
use Rattle.spec_model.specs.States.{State}
use Rattle.validator.specs.Setting.{node_of}
use Rattle.node_seats.specs.Views.{events}
use Rattle.node_shared.specs.Home.{NodeView, IsBase}
use Rattle.node_shared.proofs.Standing.{of_same}
use Rattle.node_shared.proofs.node.Node.know_all.Goals as goal

pub returns-clause-learned : goal.returns-clause-learned
returns-clause-learned g c =
    let reported = c.catch_up_durable.ensures in
    let later = c.catch_up_durable.new.seat in
    record {
      of_node = of_same c.args.self.now c.args.seat.now later c.requires.of reported.same;
      same = reported.same;
      more = reported.more;
      seen = reported.seen;
      within = reported.durable_seen;
      own = reported.own c.requires.of.numbered;
      legal = subst (λ (n : NodeView g.row.S.Denot). (base : State) → IsBase g.S.Sign.scheme n base
          → IsLegalAfter (node_of g.S.Sign.scheme n.setting) base (events later.view.durable)) c.self.view_is reported.judged;
    }
