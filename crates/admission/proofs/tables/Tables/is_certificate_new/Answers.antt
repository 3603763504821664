use Rattle.std.proofs.Common.{[], ap, ◌∙◌}
use Rattle.wire.specs.declared.message.Message.TheVariants as message
use Rattle.spec_model.specs.Admitting.{order_outputs}
use Rattle.spec_machine.specs.Machine.{grown}
use Rattle.admission.specs.Decisions.{is_new_decision, certificate_decision}
use Rattle.admission.proofs.Answered.{certificate_answered}
use Rattle.admission.proofs.Closing.{newness_is_reported}
use Rattle.admission.proofs.tables.Tables.is_certificate_new.Goals as goal

pub returns : goal.returns
returns c = λ node state event meets.
    let tables = c.args.self.now in
    let certificate = c.args.certificate.now in
    c.is_new.ensures ∙ ap is_new_decision c.certificate_decision.ensures
    ∙ newness_is_reported _ (order_outputs state (grown node state (message.Certificate certificate))) [] (certificate_decision tables certificate)
    (certificate_answered node state event tables certificate meets)
