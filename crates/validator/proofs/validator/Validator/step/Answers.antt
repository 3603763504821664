use Rattle.std.proofs.Common.{◌≡◌, None, ap, sym, subst, ◌∙◌}
use Rattle.wire.specs.Grammar.{IsMessage}
use Rattle.header.specs.Checks.{fault_of, accepts_all}
use Rattle.spec_model.specs.Admitting.{admit, IsLegal}
use Rattle.spec_model.specs.Giving.{kept}
use Rattle.spec_model.specs.Histories.{History}
use Rattle.header.specs.declared.admission.Admission.{Admission}
use Rattle.spec_machine.specs.Machine.{answered, after, grown}
use Rattle.spec_model.specs.Nodes.{Node}
use Rattle.spec_model.specs.States.{State}
use Rattle.spec_model.specs.Words.{Digest, Message, Signature}
use Rattle.admission.specs.Answers.{IsAnswer, RefusesAs}
use Rattle.admission.specs.Standing.{Meets}
use Rattle.admission.specs.declared.tables.Tables.{Tables}
use Rattle.validator.specs.Setting.{node_of}
use Rattle.validator.specs.Standing.{AreAtSound, GoesOn}
use Rattle.validator.proofs.NeverDown.{never_down, comes_up}
use Rattle.validator.proofs.Meeting.{meets_at, following, stands, answered_new, goes_on}
use Rattle.validator.proofs.validator.Validator.step.Goals as goal

pub returns-clause-answer : goal.returns-clause-answer
returns-clause-answer g c =
    let node : Node = node_of g.S.Sign.scheme c.self.inside.config.now in
    let tables : Tables = c.self.inside.tables in
    let event = c.args.event in
    let sign : Digest → Signature = g.S.Sign.scheme.signature_of c.signer.result.now in
    let signs : node.sign ≡ sign = ap g.S.Sign.scheme.signature_of (sym c.signer.ensures) in
    let passed : fault_of node.charter accepts_all event ≡ None = ap (λ v. fault_of v.setting.charter accepts_all event) c.self.view_is ∙ c.requires.passed in
    let within : IsMessage event.message = subst (λ (m : Message). IsMessage m) c.message.ensures c.limits_hold-2.ensures in
    let meets : (state : State) → AreAtSound node tables state → Meets node state event tables event.message =
    λ state is. meets_at node state event tables c.limits_hold.ensures within passed is in
    subst (λ v. (state : State) → AreAtSound (node_of g.S.Sign.scheme v.setting) v.tables state → IsAnswer (answered (node_of g.S.Sign.scheme v.setting) state event) c.take.result) c.self.view_is
    (λ state is. c.take.ensures.answer node state (meets state is) signs)

pub returns-clause-refused : goal.returns-clause-refused
returns-clause-refused g c =
    let node : Node = node_of g.S.Sign.scheme c.self.inside.config.now in
    let tables : Tables = c.self.inside.tables in
    let event = c.args.event in
    let sign : Digest → Signature = g.S.Sign.scheme.signature_of c.signer.result.now in
    let signs : node.sign ≡ sign = ap g.S.Sign.scheme.signature_of (sym c.signer.ensures) in
    let passed : fault_of node.charter accepts_all event ≡ None = ap (λ v. fault_of v.setting.charter accepts_all event) c.self.view_is ∙ c.requires.passed in
    let within : IsMessage event.message = subst (λ (m : Message). IsMessage m) c.message.ensures c.limits_hold-2.ensures in
    let meets : (state : State) → AreAtSound node tables state → Meets node state event tables event.message =
    λ state is. meets_at node state event tables c.limits_hold.ensures within passed is in
    subst (λ v. (state : State) → AreAtSound (node_of g.S.Sign.scheme v.setting) v.tables state → RefusesAs (answered (node_of g.S.Sign.scheme v.setting) state event) c.take.result) c.self.view_is
    (λ state is. c.take.ensures.refused node state (meets state is) signs)

pub returns-clause-at : goal.returns-clause-at
returns-clause-at g c = λ new.
    let node : Node = node_of g.S.Sign.scheme c.self.inside.config.now in
    let tables : Tables = c.self.inside.tables in
    let event = c.args.event in
    let sign : Digest → Signature = g.S.Sign.scheme.signature_of c.signer.result.now in
    let signs : node.sign ≡ sign = ap g.S.Sign.scheme.signature_of (sym c.signer.ensures) in
    let passed : fault_of node.charter accepts_all event ≡ None = ap (λ v. fault_of v.setting.charter accepts_all event) c.self.view_is ∙ c.requires.passed in
    let within : IsMessage event.message = subst (λ (m : Message). IsMessage m) c.message.ensures c.limits_hold-2.ensures in
    let meets : (state : State) → AreAtSound node tables state → Meets node state event tables event.message =
    λ state is. meets_at node state event tables c.limits_hold.ensures within passed is in
    subst (λ v. (state : State) → AreAtSound (node_of g.S.Sign.scheme v.setting) v.tables state
    → AreAtSound (node_of g.S.Sign.scheme v.setting) c.take.new.tables (after (node_of g.S.Sign.scheme v.setting) state event)) c.self.view_is
    (λ state is. following c.sound_stays.ensures node state event tables c.take.new.tables sign c.take.result (meets state is) signs c.take.ensures.answer (c.take.ensures.at new) new)

pub returns-clause-same : goal.returns-clause-same
returns-clause-same g c = λ old. ap (λ (t : Tables). record { setting = c.self.inside.config.now; tables = t }) (c.take.ensures.same old) ∙ c.self.view_is

pub invariant_of-self : goal.invariant_of-self
invariant_of-self g c =
    let node : Node = node_of g.S.Sign.scheme c.self.inside.config.now in
    let tables : Tables = c.self.inside.tables in
    let event = c.args.event in
    let sign : Digest → Signature = g.S.Sign.scheme.signature_of c.signer.result.now in
    let signs : node.sign ≡ sign = ap g.S.Sign.scheme.signature_of (sym c.signer.ensures) in
    let passed : fault_of node.charter accepts_all event ≡ None = ap (λ v. fault_of v.setting.charter accepts_all event) c.self.view_is ∙ c.requires.passed in
    let within : IsMessage event.message = subst (λ (m : Message). IsMessage m) c.message.ensures c.limits_hold-2.ensures in
    let meets : (state : State) → AreAtSound node tables state → Meets node state event tables event.message =
    λ state is. meets_at node state event tables c.limits_hold.ensures within passed is in
    record {
      somewhere = stands c.sound_stays.ensures node event tables c.take.new.tables sign c.take.result meets signs c.take.ensures.answer c.take.ensures.at c.take.ensures.same c.self.invariant.somewhere;
      seed = c.take.ensures.seed ∙ c.self.invariant.seed;
    }

pub take-requires : goal.take-requires
take-requires g c =
    let node : Node = node_of g.S.Sign.scheme c.self.inside.config.now in
    let tables : Tables = c.self.inside.tables in
    let event = c.args.event in
    let sign : Digest → Signature = g.S.Sign.scheme.signature_of c.signer.result.now in
    let signs : node.sign ≡ sign = ap g.S.Sign.scheme.signature_of (sym c.signer.ensures) in
    let passed : fault_of node.charter accepts_all event ≡ None = ap (λ v. fault_of v.setting.charter accepts_all event) c.self.view_is ∙ c.requires.passed in
    let within : IsMessage event.message = subst (λ (m : Message). IsMessage m) c.message.ensures c.limits_hold-2.ensures in
    let meets : (state : State) → AreAtSound node tables state → Meets node state event tables event.message =
    λ state is. meets_at node state event tables c.limits_hold.ensures within passed is in
    record { meets = (node, c.self.invariant.somewhere.0, event, meets c.self.invariant.somewhere.0 c.self.invariant.somewhere.1) }

pub returns-clause-admits : goal.returns-clause-admits
returns-clause-admits g c =
    let node : Node = node_of g.S.Sign.scheme c.self.inside.config.now in
    let tables : Tables = c.self.inside.tables in
    let event = c.args.event in
    let sign : Digest → Signature = g.S.Sign.scheme.signature_of c.signer.result.now in
    let signs : node.sign ≡ sign = ap g.S.Sign.scheme.signature_of (sym c.signer.ensures) in
    let passed : fault_of node.charter accepts_all event ≡ None = ap (λ v. fault_of v.setting.charter accepts_all event) c.self.view_is ∙ c.requires.passed in
    let within : IsMessage event.message = subst (λ (m : Message). IsMessage m) c.message.ensures c.limits_hold-2.ensures in
    let meets : (state : State) → AreAtSound node tables state → Meets node state event tables event.message =
    λ state is. meets_at node state event tables c.limits_hold.ensures within passed is in
    subst (λ v. (history : History) → IsLegal (node_of g.S.Sign.scheme v.setting) history → AreAtSound (node_of g.S.Sign.scheme v.setting) v.tables
    (kept (node_of g.S.Sign.scheme v.setting) history) → IsAnswer (admit (node_of g.S.Sign.scheme v.setting) history event) c.take.result)
    c.self.view_is
    (λ history legal is. subst (λ (a : Admission). IsAnswer a c.take.result) (sym (c.state_answers.ensures node history event legal (record { message = within; passed = passed })))
    (c.take.ensures.answer node (kept node history) (meets (kept node history) is) signs))

pub returns-clause-longer : goal.returns-clause-longer
returns-clause-longer g c = λ new.
    let node : Node = node_of g.S.Sign.scheme c.self.inside.config.now in
    let tables : Tables = c.self.inside.tables in
    let event = c.args.event in
    let sign : Digest → Signature = g.S.Sign.scheme.signature_of c.signer.result.now in
    let signs : node.sign ≡ sign = ap g.S.Sign.scheme.signature_of (sym c.signer.ensures) in
    let passed : fault_of node.charter accepts_all event ≡ None = ap (λ v. fault_of v.setting.charter accepts_all event) c.self.view_is ∙ c.requires.passed in
    let within : IsMessage event.message = subst (λ (m : Message). IsMessage m) c.message.ensures c.limits_hold-2.ensures in
    let meets : (state : State) → AreAtSound node tables state → Meets node state event tables event.message =
    λ state is. meets_at node state event tables c.limits_hold.ensures within passed is in
    subst (λ v. (history : History) → IsLegal (node_of g.S.Sign.scheme v.setting) history → AreAtSound (node_of g.S.Sign.scheme v.setting) v.tables
    (kept (node_of g.S.Sign.scheme v.setting) history) → GoesOn (node_of g.S.Sign.scheme v.setting) history event c.take.new.tables)
    c.self.view_is
    (λ history legal is.
    goes_on c.state_answers.ensures c.state_follows.ensures c.sound_stays.ensures c.order_grows.ensures node history event c.take.new.tables legal (record { message = within; passed = passed })
    (answered_new (answered node (kept node history) event) c.take.result (c.take.ensures.answer node (kept node history) (meets (kept node history) is) signs) new)
    (following c.sound_stays.ensures node (kept node history) event tables c.take.new.tables sign c.take.result (meets (kept node history) is) signs c.take.ensures.answer (c.take.ensures.at new) new))

pub returns-clause-never_down : goal.returns-clause-never_down
returns-clause-never_down g c =
    let node : Node = node_of g.S.Sign.scheme c.self.inside.config.now in
    let state : State = c.self.invariant.somewhere.0 in
    let event = c.args.event in
    let sign : Digest → Signature = g.S.Sign.scheme.signature_of c.signer.result.now in
    let signs : node.sign ≡ sign = ap g.S.Sign.scheme.signature_of (sym c.signer.ensures) in
    let passed : fault_of node.charter accepts_all event ≡ None = ap (λ v. fault_of v.setting.charter accepts_all event) c.self.view_is ∙ c.requires.passed in
    let within : IsMessage event.message = subst (λ (m : Message). IsMessage m) c.message.ensures c.limits_hold-2.ensures in
    let meets = meets_at node state event c.self.inside.tables c.limits_hold.ensures within passed c.self.invariant.somewhere.1 in
    comes_up (answered node state event) c.take.result (c.take.ensures.answer node state meets signs) (never_down node state (grown node state event.message) event)
