use Rattle.std.proofs.Common.{◌≡◌, subst}
use Rattle.std.specs.Prelude.{drop, IfOk}
use Rattle.book.specs.Book.{Run, Stands, settled_in}
use Rattle.validator.specs.Setting.{node_of}
use Rattle.book.proofs.own.OwnBook.order.Goals as goal

pub returns-clause-order : goal.returns-clause-order
returns-clause-order g c =
    subst (λ it. IfOk c.order.result (λ digests. (run : Run) → Stands (node_of g.S.Sign.scheme it.validator.setting) run it
    → digests.items ≡ drop c.args.from (settled_in (node_of g.S.Sign.scheme it.validator.setting) run).order))
    c.self.view_is c.order.ensures.order
