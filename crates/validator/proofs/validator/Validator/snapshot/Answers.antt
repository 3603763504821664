use Rattle.std.proofs.Common.{sym, subst}
use Rattle.std.specs.Prelude.{IfOk}
use Rattle.std.proofs.lemmas.Result.{IfOk-weaker}
use Rattle.checkpoint.specs.Describes.{Describes}
use Rattle.spec_model.specs.Nodes.{Node}
use Rattle.admission.specs.declared.tables.Tables.{Tables}
use Rattle.validator.specs.Setting.{node_of}
use Rattle.validator.proofs.validator.Validator.snapshot.Goals as goal

pub snapshot_of-requires : goal.snapshot_of-requires
snapshot_of-requires g c =
    let node : Node = node_of g.S.Sign.scheme c.self.inside.config.now in
    let (state, is) = c.self.invariant.somewhere in
    (node, state, record { number = sym c.own.ensures; node_is = c.limits_hold.ensures; sound = is.sound; at = is.at })

pub returns : goal.returns
returns g c =
    let node : Node = node_of g.S.Sign.scheme c.self.inside.config.now in
    let tables : Tables = c.self.inside.tables in
    let (state, is) = c.self.invariant.somewhere in
    subst (λ v. IfOk c.snapshot_of.result (Describes (node_of g.S.Sign.scheme v.setting) v.tables)) c.self.view_is
    (IfOk-weaker c.snapshot_of.result _ (Describes node tables)
    (λ snapshot describes. describes node state (sym c.own.ensures) c.limits_hold.ensures is.sound is.at) c.snapshot_of.ensures)
