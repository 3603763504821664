use Rattle.std.proofs.Common.{◌≡◌, None, ap, sym, subst, ◌∙◌}
use Rattle.wire.specs.Grammar.{IsMessage}
use Rattle.header.specs.Checks.{fault_of, accepts_all}
use Rattle.spec_machine.specs.Machine.{answered}
use Rattle.spec_model.specs.Admitting.{is_new}
use Rattle.spec_model.specs.Giving.{kept}
use Rattle.spec_model.specs.Nodes.{Node}
use Rattle.spec_model.specs.States.{State}
use Rattle.spec_model.specs.Words.{Message}
use Rattle.admission.specs.declared.tables.Tables.{Tables}
use Rattle.validator.specs.Setting.{node_of}
use Rattle.validator.specs.Standing.{AreAtSound}
use Rattle.validator.proofs.Meeting.{meets_at}
use Rattle.validator.proofs.validator.Validator.is_new.Goals as goal

pub is_new-requires : goal.is_new-requires
is_new-requires g c =
    let node : Node = node_of g.S.Sign.scheme c.self.inside.config.now in
    let tables : Tables = c.self.inside.tables in
    let event = c.args.event.now in
    let passed : fault_of node.charter accepts_all event ≡ None = ap (λ v. fault_of v.setting.charter accepts_all event) c.self.view_is ∙ c.requires.passed in
    let within : IsMessage event.message = subst (λ (m : Message). IsMessage m) c.message.ensures c.limits_hold-2.ensures in
    record { meets = (node, c.self.invariant.somewhere.0, event, meets_at node c.self.invariant.somewhere.0 event tables c.limits_hold.ensures within passed c.self.invariant.somewhere.1) }

pub returns-clause-at : goal.returns-clause-at
returns-clause-at g c =
    let node : Node = node_of g.S.Sign.scheme c.self.inside.config.now in
    let tables : Tables = c.self.inside.tables in
    let event = c.args.event.now in
    let passed : fault_of node.charter accepts_all event ≡ None = ap (λ v. fault_of v.setting.charter accepts_all event) c.self.view_is ∙ c.requires.passed in
    let within : IsMessage event.message = subst (λ (m : Message). IsMessage m) c.message.ensures c.limits_hold-2.ensures in
    subst (λ v. (state : State) → AreAtSound (node_of g.S.Sign.scheme v.setting) v.tables state
    → c.is_new.result ≡ is_new (answered (node_of g.S.Sign.scheme v.setting) state event)) c.self.view_is
    (λ state is. c.is_new.ensures node state (meets_at node state event tables c.limits_hold.ensures within passed is))

pub returns-clause-history : goal.returns-clause-history
returns-clause-history g c = λ history legal is.
    let node : Node = node_of g.S.Sign.scheme c.args.self.now.setting in
    let event = c.args.event.now in
    let within : IsMessage event.message = subst (λ (m : Message). IsMessage m) c.message.ensures c.limits_hold-2.ensures in
    returns-clause-at g c (kept node history) is ∙ ap is_new (sym (c.state_answers.ensures node history event legal (record { message = within; passed = c.requires.passed })))
