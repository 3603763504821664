use Rattle.std.proofs.Common.{◌≡◌, subst}
use Rattle.std.specs.Prelude.{IfOk}
use Rattle.opening.proofs.Reporting.{ok_weaker}
use Rattle.book.specs.Book.{Run, Stands, state_in}
use Rattle.spec_machine.specs.Machine.{proposed}
use Rattle.spec_model.specs.States.{State}
use Rattle.validator.specs.Setting.{node_of}
use Rattle.validator.specs.Standing.{ValidatorView, AreAtSound}
use Rattle.desk.specs.Desk.{DeskView}
use Rattle.desk.proofs.desk.Desk.propose.Goals as goal

pub returns : goal.returns
returns g c =
    let at = subst (λ (v : ValidatorView g.row.S.Denot). IfOk c.propose.result (λ found. (state : State) → AreAtSound (node_of g.S.Sign.scheme v.setting) v.tables state
    → found ≡ proposed (node_of g.S.Sign.scheme v.setting) state)) c.validator.ensures c.propose.ensures.at in
    subst (λ (d : DeskView g.row.S.Denot g.row.D.Denot). IfOk c.propose.result (λ found. (run : Run) → Stands (node_of g.S.Sign.scheme d.book.validator.setting) run d.book
    → found ≡ proposed (node_of g.S.Sign.scheme d.book.validator.setting) (state_in (node_of g.S.Sign.scheme d.book.validator.setting) run))) c.self.view_is
    (ok_weaker c.propose.result _ _ (λ found is run stands. is (state_in (node_of g.S.Sign.scheme c.self.inside.book.validator.setting) run) stands.at) at)
