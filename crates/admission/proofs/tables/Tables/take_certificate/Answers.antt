use Rattle.std.proofs.Common.{[], ap, sym, ◌∙◌}
use Rattle.std.specs.Prelude.{Ok}
use Rattle.wire.specs.declared.message.Message.TheVariants as message
use Rattle.spec_model.specs.Admitting.{is_new, order_outputs}
use Rattle.header.specs.declared.admission.Admission.TheVariants as admission
use Rattle.spec_machine.specs.Machine.{grown}
use Rattle.admission.specs.Decisions.{reported, certificate_decision}
use Rattle.admission.proofs.Answered.{certificate_answered}
use Rattle.admission.proofs.Closing.{refused_answer, refused_refuses, known_refuses, new_refuses, went}
use Rattle.admission.proofs.Committing.{put_out}
use Rattle.admission.proofs.tables.Tables.take_certificate.Goals as goal

pub returns-in-Err-clause-answer : goal.returns-in-Err-clause-answer
returns-in-Err-clause-answer c = λ node state event meets.
    let tables = c.args.self.now in
    let certificate = c.args.certificate in
    refused_answer _ _ [] (certificate_decision tables certificate) c.in-Err.refusal (certificate_answered node state event tables certificate meets) (sym c.in-Err.ensures)

pub returns-in-Err-clause-refused : goal.returns-in-Err-clause-refused
returns-in-Err-clause-refused c = λ node state event meets.
    let tables = c.args.self.now in
    let certificate = c.args.certificate in
    refused_refuses _ _ [] (certificate_decision tables certificate) c.in-Err.refusal (certificate_answered node state event tables certificate meets) (sym c.in-Err.ensures)

pub returns-in-Ok-Known-clause-answer : goal.returns-in-Ok-Known-clause-answer
returns-in-Ok-Known-clause-answer c = λ node state event meets.
    let tables = c.args.self.now in
    let certificate = c.args.certificate in
    certificate_answered node state event tables certificate meets
    ∙ ap (reported (order_outputs state (grown node state (message.Certificate certificate))) []) (sym c.in-Ok-Known.ensures ∙ ap (λ a. Ok a) c.in-Ok-Known.field-0-is)
    ∙ ap admission.Known (sym c.new.ensures.items)

pub returns-in-Ok-Known-clause-refused : goal.returns-in-Ok-Known-clause-refused
returns-in-Ok-Known-clause-refused c = λ node state event meets.
    let tables = c.args.self.now in
    let certificate = c.args.certificate in
    known_refuses _ [] _ (certificate_answered node state event tables certificate meets
    ∙ ap (reported (order_outputs state (grown node state (message.Certificate certificate))) []) (sym c.in-Ok-Known.ensures ∙ ap (λ a. Ok a) c.in-Ok-Known.field-0-is))

pub new_certificate-requires-clause-meets : goal.new_certificate-requires-clause-meets
new_certificate-requires-clause-meets c =
    let tables = c.args.self.now in
    let certificate = c.args.certificate in
    let node = c.requires.meets.0 in
    let state = c.requires.meets.1 in
    let event = c.requires.meets.2 in
    let meets = c.requires.meets.3 in
    let is = certificate_answered node state event tables certificate meets
    ∙ ap (reported (order_outputs state (grown node state (message.Certificate certificate))) []) (sym c.in-Ok-New.ensures ∙ ap (λ a. Ok a) c.in-Ok-New.field-0-is) in
    (node, state, event, meets, ap is_new is)

pub returns-in-Ok-New-clause-answer : goal.returns-in-Ok-New-clause-answer
returns-in-Ok-New-clause-answer c = λ node state event meets.
    let tables = c.args.self.now in
    let certificate = c.args.certificate in
    let is = certificate_answered node state event tables certificate meets
    ∙ ap (reported (order_outputs state (grown node state (message.Certificate certificate))) []) (sym c.in-Ok-New.ensures ∙ ap (λ a. Ok a) c.in-Ok-New.field-0-is) in
    put_out tables (message.Certificate certificate) c.new_certificate.result c.new_step.result node state event c.new_step.ensures.ok
    c.new_step.ensures.err c.new_certificate.ensures.outputs meets (ap is_new is)

pub returns-in-Ok-New-clause-refused : goal.returns-in-Ok-New-clause-refused
returns-in-Ok-New-clause-refused c = λ node state event meets.
    let tables = c.args.self.now in
    let certificate = c.args.certificate in
    new_refuses _ (order_outputs state (grown node state (message.Certificate certificate))) c.new_step.result (certificate_answered node state event tables certificate meets
    ∙ ap (reported (order_outputs state (grown node state (message.Certificate certificate))) []) (sym c.in-Ok-New.ensures ∙ ap (λ a. Ok a) c.in-Ok-New.field-0-is))

pub returns-in-Ok-New-clause-at : goal.returns-in-Ok-New-clause-at
returns-in-Ok-New-clause-at c = λ new. went c.new_certificate.result c.new_step.result c.new_step.ensures.ok c.new_step.ensures.err new c.new_certificate.ensures.at
