use Rattle.std.proofs.Common.{sym, subst}
use Rattle.std.specs.Prelude.{IfOk}
use Rattle.std.proofs.lemmas.Result.{IfOk-weaker}
use Rattle.checkpoint.specs.Describes.{Describes}
use Rattle.journal.specs.Format.{contents}
use Rattle.spec_model.specs.Nodes.{Node}
use Rattle.admission.specs.declared.tables.Tables.{Tables}
use Rattle.validator.specs.Setting.{node_of}
use Rattle.validator.proofs.validator.Validator.kept_records.Goals as goal

pub returns : goal.returns
returns g c =
    let node : Node = node_of g.S.Sign.scheme c.self.inside.config.now in
    let tables : Tables = c.self.inside.tables in
    let (state, is) = c.self.invariant.somewhere in
    subst (λ v. IfOk c.kept_records.result (λ rows. Describes (node_of g.S.Sign.scheme v.setting) v.tables (contents rows.items))) c.self.view_is
    (IfOk-weaker c.kept_records.result _ (λ rows. Describes node tables (contents rows.items))
    (λ rows describes. describes node state (sym c.own.ensures) c.limits_hold.ensures is.sound is.at) c.kept_records.ensures)
