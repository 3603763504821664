use Rattle.std.proofs.Common.{◌≡◌, [], ◌∷◌, drop, subst}
use Rattle.std.specs.Prelude.{IfOk, OnOk}
use Rattle.book.specs.Book.{Run, Stands, settled_in}
use Rattle.spec_world.specs.Steps.{read_order}
use Rattle.spec_world.specs.World.{World}
use Rattle.validator.specs.Setting.{node_of}
use Rattle.desk.specs.Desk.{DeskView}
use Rattle.desk.specs.AtWorld.{IsAt, LeadsTo}
use Rattle.desk.proofs.Answered.{order_step}
use Rattle.desk.proofs.desk.Desk.order.Goals as goal

pub returns-clause-order : goal.returns-clause-order
returns-clause-order g c =
    subst (λ (d : DeskView g.row.S.Denot g.row.D.Denot). IfOk c.order.result (λ digests. (run : Run) → Stands (node_of g.S.Sign.scheme d.book.validator.setting) run d.book
    → digests.items ≡ drop c.args.from (settled_in (node_of g.S.Sign.scheme d.book.validator.setting) run).order)) c.self.view_is
    c.order.ensures.order

pub returns-clause-step : goal.returns-clause-step
returns-clause-step g c =
    let before : DeskView g.row.S.Denot g.row.D.Denot = record { book = c.self.inside.book; journal = c.self.inside.journal } in
    subst (λ (d : DeskView g.row.S.Denot g.row.D.Denot). OnOk c.order.result ((world : World) → IsAt (node_of g.S.Sign.scheme d.book.validator.setting) g.D.Disk.device world d
    → LeadsTo (node_of g.S.Sign.scheme d.book.validator.setting) g.D.Disk.device world (read_order ∷ []) d)) c.self.view_is
    (order_step (node_of g.S.Sign.scheme before.book.validator.setting) g.D.Disk.device before c.order.result c.order.ensures.down)
