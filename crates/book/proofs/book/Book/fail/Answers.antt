use Rattle.std.proofs.Common.{refl, subst, true}
use Rattle.spec_model.specs.Nodes.{Node}
use Rattle.validator.specs.Setting.{node_of}
use Rattle.book.specs.Showing.{shown_of}
use Rattle.book.specs.Book.{BookView, Run, Stands}
use Rattle.book.proofs.Flushing.{stands_down}
use Rattle.book.proofs.book.Book.fail.Goals as goal

pub returns-clause-stands : goal.returns-clause-stands
returns-clause-stands g c =
    let b = c.self.inside in
    let node : Node = node_of g.S.Sign.scheme b.validator.setting in
    let before : BookView g.row.S.Denot = shown_of b in
    let later : BookView g.row.S.Denot = record before { down = true } in
    subst (λ (s : BookView g.row.S.Denot). (run : Run) → Stands (node_of g.S.Sign.scheme s.validator.setting) run s → Stands (node_of g.S.Sign.scheme s.validator.setting) run later) c.self.view_is
    (λ run at. stands_down node run before later refl at)
