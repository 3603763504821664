use Rattle.std.proofs.Common.{◌≡◌, List, drop, ◌∙◌, subst}
use Rattle.spec_model.specs.Words.{Digest}
use Rattle.spec_model.specs.Nodes.{Node}
use Rattle.validator.specs.Setting.{node_of}
use Rattle.book.specs.Showing.{shown_of}
use Rattle.book.specs.Book.{BookView, Run, Stands, state_in, settled_in}
use Rattle.book.proofs.Releasing.{reads}
use Rattle.book.proofs.book.Book.order.Goals as goal

pub returns-in-Ok-clause-order : goal.returns-in-Ok-clause-order
returns-in-Ok-clause-order g c =
    let b = c.self.inside in
    let node : Node = node_of g.S.Sign.scheme b.validator.setting in
    let book : BookView g.row.S.Denot = shown_of b in
    let whole : List Digest = c.order-order.result.now in
    subst (λ (s : BookView g.row.S.Denot). (run : Run) → Stands (node_of g.S.Sign.scheme s.validator.setting) run s → c.in-Ok.digests.items
    ≡ drop c.args.from (settled_in (node_of g.S.Sign.scheme s.validator.setting) run).order) c.self.view_is
    (λ run at. c.in-Ok.ensures.items_if_clones_equal (λ x y same. cc)
    ∙ reads node run book at whole c.args.from c.min-end.result c.min-start.result (c.order-order.ensures.at (state_in node run) at.at) c.min-end.ensures c.min-start.ensures)
