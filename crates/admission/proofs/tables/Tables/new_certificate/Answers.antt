use Rattle.std.proofs.Common.{◌++◌, List, [], ap, sym, ◌∙◌}
use Rattle.wire.specs.declared.message.Message.TheVariants as message
use Rattle.spec_model.specs.Admitting.{order_outputs}
use Rattle.spec_model.specs.Words.{Message, Output}
use Rattle.header.specs.declared.admission.Admission.TheVariants as admission
use Rattle.spec_machine.specs.Machine.{certificate_of, grown}
use Rattle.admission.specs.Batches.{changes_batches}
use Rattle.admission.specs.Votes.{is_peers_header}
use Rattle.admission.specs.HeaderLaws.{is_other}
use Rattle.admission.specs.Decisions.{certificate_decision}
use Rattle.admission.proofs.Answered.{certificate_answered}
use Rattle.admission.proofs.Closing.{comes_of, new_is_reported}
use Rattle.admission.proofs.Committing.{comes_to, after_commit, headers_after}
use Rattle.admission.proofs.tables.Tables.new_certificate.Goals as goal

pub hold_certificate-requires-clause-new : goal.hold_certificate-requires-clause-new
hold_certificate-requires-clause-new c =
    let tables = c.args.self.now in
    let certificate = c.args.certificate in
    let node = c.requires.meets.0 in
    let state = c.requires.meets.1 in
    let event = c.requires.meets.2 in
    let meets = c.requires.meets.3 in
    let comes = comes_of node state event tables (message.Certificate certificate) meets c.requires.meets.4 in
    c.certificates_are_new.ensures node state event tables.sequencer certificate (comes_to node state event tables comes meets.at) (ap (certificate_of node state) meets.message)

pub returns-clause-outputs : goal.returns-clause-outputs
returns-clause-outputs c = λ node state event meets new.
    let tables = c.args.self.now in
    let certificate = c.args.certificate in
    let comes = comes_of node state event tables (message.Certificate certificate) meets new in
    let puts = c.in_ok-hold_certificate.ensures.outputs node state event (comes_to node state event tables comes meets.at) (ap (certificate_of node state) meets.message) in
    new_is_reported _ (order_outputs state (grown node state (message.Certificate certificate))) [] (certificate_decision tables certificate)
    (certificate_answered node state event tables certificate meets) new
    ∙ ap admission.New (ap (λ (m : Message). order_outputs state (grown node state m)) (sym meets.message)
    ∙ sym (c.into_vec.ensures ∙ puts ∙ ap (λ (l : List Output). l ++ order_outputs state (grown node state event.message)) c.new-outputs.ensures))

pub returns-clause-at : goal.returns-clause-at
returns-clause-at c = λ node state event meets new.
    let tables = c.args.self.now in
    let later = c.trim.new.self in
    let made = c.hold_certificate.new.sequencer in
    let before = c.floor-before.result in
    let others = c.others_stay.ensures in
    let comes = comes_of node state event tables (message.Certificate c.args.certificate) meets new in
    let at = c.in_ok-hold_certificate.ensures.at node state event (comes_to node state event tables comes meets.at) (ap (certificate_of node state) meets.message) in
    after_commit others node state event tables later made before comes meets.at (ap (changes_batches node) meets.message) (ap (is_peers_header node) meets.message)
    c.trim.ensures.own c.trim.ensures.batches at c.trim.ensures.sequencer c.floor-before.ensures c.trim.ensures.votes
    (headers_after others node state event tables later made before comes meets.at (ap (is_other node) meets.message) at c.floor-before.ensures c.trim.ensures.headers)
