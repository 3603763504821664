use Rattle.std.proofs.Common.{◌∷◌, []}
use Rattle.std.specs.Prelude.{OnOk}
use Rattle.spec_world.specs.Steps.{accept}
use Rattle.spec_world.specs.World.{World}
use Rattle.validator.specs.Setting.{node_of}
use Rattle.std.proofs.Common.{refl, subst}
use Rattle.desk.specs.Desk.{DeskView}
use Rattle.desk.specs.AtWorld.{IsAt, LeadsTo}
use Rattle.desk.proofs.Answered.{accept_step}
use Rattle.desk.proofs.desk.Desk.accept.Goals as goal

pub returns-clause-step : goal.returns-clause-step
returns-clause-step g c =
    let later : DeskView g.row.S.Denot g.row.D.Denot = record { book = c.accept.new.self; journal = c.self.inside.journal } in
    let before : DeskView g.row.S.Denot g.row.D.Denot = record { book = c.self.inside.book; journal = c.self.inside.journal } in
    subst (λ (d : DeskView g.row.S.Denot g.row.D.Denot). OnOk c.accept.result ((world : World) → IsAt (node_of g.S.Sign.scheme d.book.validator.setting) g.D.Disk.device world d
    → LeadsTo (node_of g.S.Sign.scheme d.book.validator.setting) g.D.Disk.device world (accept c.args.event ∷ []) later)) c.self.view_is
    (accept_step (node_of g.S.Sign.scheme before.book.validator.setting) g.D.Disk.device before later c.accept_is_a_step.ensures c.args.event c.accept.result
    c.accept.ensures.down c.accept.ensures.new c.accept.ensures.known refl)
