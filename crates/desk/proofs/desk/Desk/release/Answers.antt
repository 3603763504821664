use Rattle.std.proofs.Common.{◌∷◌, [], ℕ, refl, subst}
use Rattle.std.specs.Prelude.{IfSome}
use Rattle.spec_world.specs.Steps.{release}
use Rattle.spec_world.specs.World.{World}
use Rattle.validator.specs.Setting.{node_of}
use Rattle.desk.specs.Desk.{DeskView}
use Rattle.desk.specs.AtWorld.{IsAt, LeadsTo}
use Rattle.desk.proofs.Answered.{release_step}
use Rattle.desk.proofs.desk.Desk.release.Goals as goal

pub returns-clause-step : goal.returns-clause-step
returns-clause-step g c =
    let later : DeskView g.row.S.Denot g.row.D.Denot = record { book = c.release.new.self; journal = c.self.inside.journal } in
    let before : DeskView g.row.S.Denot g.row.D.Denot = record { book = c.self.inside.book; journal = c.self.inside.journal } in
    subst (λ (d : DeskView g.row.S.Denot g.row.D.Denot). IfSome c.release.result (λ output. (world : World) → IsAt (node_of g.S.Sign.scheme d.book.validator.setting) g.D.Disk.device world d
    → (ticket : ℕ) × LeadsTo (node_of g.S.Sign.scheme d.book.validator.setting) g.D.Disk.device world (release (record { ticket = ticket; output = output }) ∷ []) later)) c.self.view_is
    (release_step (node_of g.S.Sign.scheme before.book.validator.setting) g.D.Disk.device before later c.release_is_a_step.ensures c.release.result
    c.release.ensures.output c.release.ensures.queue c.release.ensures.stands refl)
