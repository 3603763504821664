use Rattle.std.proofs.Common.{[], ap, ◌∙◌}
use Rattle.std.specs.Prelude.{not}
use Rattle.wire.specs.declared.message.Message.TheVariants as message
use Rattle.spec_model.specs.Admitting.{order_outputs}
use Rattle.spec_machine.specs.Machine.{grown}
use Rattle.admission.specs.Decisions.{lacks_parents, certificate_decision}
use Rattle.admission.proofs.Answered.{certificate_answered}
use Rattle.admission.proofs.Readying.{ready_is_reported}
use Rattle.admission.proofs.tables.Tables.is_certificate_ready.Goals as goal

pub returns : goal.returns
returns c = λ node state event meets.
    let tables = c.args.self.now in
    let certificate = c.args.certificate.now in
    ap not (c.lacks_parents.ensures ∙ ap lacks_parents c.certificate_decision.ensures)
    ∙ ready_is_reported node state event (order_outputs state (grown node state (message.Certificate certificate))) [] (certificate_decision tables certificate)
    (certificate_answered node state event tables certificate meets)
