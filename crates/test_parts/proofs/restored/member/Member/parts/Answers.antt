use Rattle.std.proofs.Common.{sym, subst}
use Rattle.std.specs.Prelude.{IfOk}
use Rattle.admission.specs.Kept.{IsKeptOf}
use Rattle.admission.specs.declared.tables.Tables.{Tables}
use Rattle.spec_model.specs.Nodes.{Node}
use Rattle.spec_model.specs.States.{State}
use Rattle.validator.specs.Setting.{node_of}
use Rattle.validator.specs.Standing.{StandSomewhere}
use Rattle.test_parts.proofs.Kept.{some_kept}
use Rattle.test_parts.proofs.restored.member.Member.parts.Goals as goal

pub returns : goal.returns
returns g c =
    let node : Node = node_of g.S.Sign.scheme c.self.inside.validator.setting in
    subst (λ v. IfOk c.parts_of.result (λ kept. (state : State) × IsKeptOf (node_of g.S.Sign.scheme v.setting) state kept)) c.self.view_is
    (some_kept node c.tables.result.now c.parts_of.result c.parts_of.ensures.kept c.limits_hold.ensures.node
    (subst (λ (t : Tables). StandSomewhere node t) (sym c.tables.ensures) c.limits_hold.ensures.sound))
