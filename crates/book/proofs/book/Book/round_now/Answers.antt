use Rattle.std.proofs.Common.{◌≡◌, subst}
use Rattle.spec_machine.specs.Machine.{round_in}
use Rattle.validator.specs.Setting.{node_of}
use Rattle.book.specs.Book.{BookView, Run, Stands, state_in}
use Rattle.book.proofs.book.Book.round_now.Goals as goal

pub returns : goal.returns
returns g c =
    subst (λ (s : BookView g.row.S.Denot). (run : Run) → Stands (node_of g.S.Sign.scheme s.validator.setting) run s → c.round.result
    ≡ round_in (node_of g.S.Sign.scheme s.validator.setting) (state_in (node_of g.S.Sign.scheme s.validator.setting) run)) c.self.view_is
    (λ run at. c.round.ensures.at (state_in (node_of g.S.Sign.scheme c.self.inside.validator.setting) run) at.at)
