use Rattle.std.proofs.Common.{◌≡◌, ◌++◌, List, length, drop, refl, ◌∙◌, ap, sym}
use Rattle.std.proofs.lemmas.List.{drop_at}
use Rattle.std.proofs.lemmas.Result.{on_ok_weaker}
use Rattle.spec_model.specs.Admitting.{pieces}
use Rattle.spec_model.specs.States.{ledger_in}
use Rattle.spec_model.specs.Words.{Digest}
use Rattle.spec_machine.specs.Machine.{grown, newly_ordered}
use Rattle.admission.proofs.tables.certificates.hold_certificate.Goals as goal

pub returns-clause-outputs : goal.returns-clause-outputs
returns-clause-outputs c = on_ok_weaker c.hold.result
    (λ held node state event comes adds.
    let prepared = c.in_ok-prepared.ensures node state event comes adds in
    let later = grown node state event.message in
    let start : length c.order.result.now ≡ length state.order = ap (λ (l : List Digest). length l) (c.order.ensures ∙ comes.at.order) in
    let digests : c.digests.result.now ≡ drop (length state.order) later.order =
    c.digests.ensures ∙ prepared.digests ∙ sym (drop_at state.order (newly_ordered (ledger_in node state) (ledger_in node later)) (length state.order) refl) in
    c.in_ok-push_order.ensures ∙ (λ i. c.args.outputs.now ++ pieces (start i) (digests i)))
    c.hold.ensures.order

pub returns-clause-at : goal.returns-clause-at
returns-clause-at c = on_ok_weaker c.hold.result
    (λ at node state event comes adds. at node state event comes adds (c.in_ok-prepared.ensures node state event comes adds)) c.hold.ensures.at
