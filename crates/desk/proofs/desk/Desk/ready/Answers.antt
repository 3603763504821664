use Rattle.std.proofs.Common.{◌≡◌, subst}
use Rattle.book.specs.Book.{Run, Stands, state_in}
use Rattle.spec_machine.specs.Machine.{is_ready}
use Rattle.spec_model.specs.States.{State}
use Rattle.validator.specs.Setting.{node_of}
use Rattle.validator.specs.Standing.{ValidatorView, AreAtSound}
use Rattle.desk.specs.Desk.{DeskView}
use Rattle.desk.proofs.desk.Desk.ready.Goals as goal

pub returns : goal.returns
returns g c =
    let at = subst (λ (v : ValidatorView g.row.S.Denot). (state : State) → AreAtSound (node_of g.S.Sign.scheme v.setting) v.tables state
    → c.ready.result ≡ is_ready (node_of g.S.Sign.scheme v.setting) state c.args.event.now) c.validator.ensures c.ready.ensures.at in
    subst (λ (d : DeskView g.row.S.Denot g.row.D.Denot). (run : Run) → Stands (node_of g.S.Sign.scheme d.book.validator.setting) run d.book
    → c.ready.result ≡ is_ready (node_of g.S.Sign.scheme d.book.validator.setting) (state_in (node_of g.S.Sign.scheme d.book.validator.setting) run) c.args.event.now) c.self.view_is
    (λ run stands. at (state_in (node_of g.S.Sign.scheme c.self.inside.book.validator.setting) run) stands.at)
