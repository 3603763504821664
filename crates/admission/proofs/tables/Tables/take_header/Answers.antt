use Rattle.std.proofs.Common.{ap, sym, ◌∙◌}
use Rattle.std.specs.Prelude.{Ok}
use Rattle.spec_model.specs.Words.{Digest, Signature}
use Rattle.admission.specs.Decisions.{reported, header_decision, new_header_outputs, known_header_outputs}
use Rattle.admission.proofs.Answered.{header_answered}
use Rattle.admission.proofs.Closing.{refused_answer, refused_refuses, known_answer, known_not_new, known_refuses, new_answer, new_refuses, went}
use Rattle.admission.proofs.Heading.{is_free}
use Rattle.admission.proofs.tables.Tables.take_header.Goals as goal

pub returns-in-Err-clause-answer : goal.returns-in-Err-clause-answer
returns-in-Err-clause-answer g c = λ node state event meets signs.
    let tables = c.args.self.now in
    let header = c.args.header in
    let sign : Digest → Signature = g.S.Sign.scheme.signature_of c.args.signer.now in
    refused_answer _ (new_header_outputs tables sign header) (known_header_outputs tables sign header) (header_decision tables header)
    c.in-Err.refusal (header_answered node state event tables sign header meets signs) (sym c.in-Err.ensures)

pub returns-in-Err-clause-refused : goal.returns-in-Err-clause-refused
returns-in-Err-clause-refused g c = λ node state event meets signs.
    let tables = c.args.self.now in
    let header = c.args.header in
    let sign : Digest → Signature = g.S.Sign.scheme.signature_of c.args.signer.now in
    refused_refuses _ (new_header_outputs tables sign header) (known_header_outputs tables sign header) (header_decision tables header)
    c.in-Err.refusal (header_answered node state event tables sign header meets signs) (sym c.in-Err.ensures)

pub new_header-requires-clause-free : goal.new_header-requires-clause-free
new_header-requires-clause-free g c = is_free c.args.self.now c.args.header (sym c.in-Ok-New.ensures ∙ ap (λ a. Ok a) c.in-Ok-New.field-0-is)

pub returns-in-Ok-Known-clause-answer : goal.returns-in-Ok-Known-clause-answer
returns-in-Ok-Known-clause-answer g c = λ node state event meets signs.
    let tables = c.args.self.now in
    let header = c.args.header in
    let sign : Digest → Signature = g.S.Sign.scheme.signature_of c.args.signer.now in
    known_answer _ (known_header_outputs tables sign header) c.known_header.result c.known_step.result (header_answered node state event tables sign header meets signs
    ∙ ap (reported (new_header_outputs tables sign header) (known_header_outputs tables sign header)) (sym c.in-Ok-Known.ensures ∙ ap (λ a. Ok a) c.in-Ok-Known.field-0-is))
    c.known_step.ensures.ok c.known_step.ensures.err c.known_header.ensures

pub returns-in-Ok-Known-clause-refused : goal.returns-in-Ok-Known-clause-refused
returns-in-Ok-Known-clause-refused g c = λ node state event meets signs.
    let tables = c.args.self.now in
    let header = c.args.header in
    let sign : Digest → Signature = g.S.Sign.scheme.signature_of c.args.signer.now in
    known_refuses _ (known_header_outputs tables sign header) _ (header_answered node state event tables sign header meets signs
    ∙ ap (reported (new_header_outputs tables sign header) (known_header_outputs tables sign header)) (sym c.in-Ok-Known.ensures ∙ ap (λ a. Ok a) c.in-Ok-Known.field-0-is))

pub returns-in-Ok-New-clause-answer : goal.returns-in-Ok-New-clause-answer
returns-in-Ok-New-clause-answer g c = λ node state event meets signs.
    let tables = c.args.self.now in
    let header = c.args.header in
    let sign : Digest → Signature = g.S.Sign.scheme.signature_of c.args.signer.now in
    let is = header_answered node state event tables sign header meets signs
    ∙ ap (reported (new_header_outputs tables sign header) (known_header_outputs tables sign header))
    (sym c.in-Ok-New.ensures ∙ ap (λ a. Ok a) c.in-Ok-New.field-0-is) in
    new_answer _ (new_header_outputs tables sign header) c.new_header.result c.new_step.result is c.new_step.ensures.ok c.new_step.ensures.err c.new_header.ensures.outputs

pub returns-in-Ok-New-clause-refused : goal.returns-in-Ok-New-clause-refused
returns-in-Ok-New-clause-refused g c = λ node state event meets signs.
    let tables = c.args.self.now in
    let header = c.args.header in
    let sign : Digest → Signature = g.S.Sign.scheme.signature_of c.args.signer.now in
    new_refuses _ (new_header_outputs tables sign header) c.new_step.result (header_answered node state event tables sign header meets signs
    ∙ ap (reported (new_header_outputs tables sign header) (known_header_outputs tables sign header)) (sym c.in-Ok-New.ensures ∙ ap (λ a. Ok a) c.in-Ok-New.field-0-is))

pub returns-in-Ok-New-clause-at : goal.returns-in-Ok-New-clause-at
returns-in-Ok-New-clause-at g c = λ new. went c.new_header.result c.new_step.result c.new_step.ensures.ok c.new_step.ensures.err new c.new_header.ensures.at

pub returns-in-Ok-Known-clause-at : goal.returns-in-Ok-Known-clause-at
returns-in-Ok-Known-clause-at g c = λ new. absurd (known_not_new c.known_header.result c.known_step.result c.known_step.ensures.ok c.known_step.ensures.err new)
