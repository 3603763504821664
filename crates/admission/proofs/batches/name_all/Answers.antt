use Rattle.std.proofs.Common.{◌≡◌, true, ap, sym, subst, ◌∙◌}
use Rattle.wire.specs.declared.message.Message.TheVariants as message
use Rattle.spec_model.specs.Admitting.{is_new, header_answer}
use Rattle.batchstore.specs.Answer.{with_names}
use Rattle.admission.specs.Batches.{HasBatches}
use Rattle.admission.proofs.Answering.{answered_as, after_as, named_own}
use Rattle.admission.proofs.BatchesAfter.{state_after, names_come}
use Rattle.admission.proofs.batches.name_all.Goals as goal

pub returns-clause-goes_on : goal.returns-clause-goes_on
returns-clause-goes_on c = λ node state event came mine new has.
    let stock = c.args.batches.now in
    let header = c.args.header.now in
    let is : is_new (header_answer node state header) ≡ true = ap is_new (sym (answered_as node state event (message.Header header) came)) ∙ new in
    after_as (λ s. HasBatches node s c.name.new.self) node state event (message.Header header) came
    (subst (λ s. HasBatches node (state_after node state (message.Header header)) s) (sym (c.name.ensures ∙ ap (with_names stock) c.as_slice.ensures.value))
    (names_come node state stock header mine (named_own node state stock header has mine is) has))
