use Rattle.std.proofs.Common.{◌≡◌, Err, inr, ap, sym, subst, ◌∙◌}
use Rattle.wire.specs.declared.message.Message.TheVariants as message
use Rattle.spec_model.specs.Admitting.{batch_outputs}
use Rattle.header.specs.declared.admission.Admission.{Admission}
use Rattle.header.specs.declared.admission.Admission.TheVariants.{New, Known, Refused}
use Rattle.admission.specs.Answers.{IsAnswer}
use Rattle.admission.specs.Batches.{HasBatches, as_refusal}
use Rattle.admission.proofs.Answering.{after_as, answered_by, batch_answered, held_digest, the_own}
use Rattle.admission.proofs.BatchesAfter.{state_after, batch_comes}
use Rattle.admission.proofs.batches.take_batch.Goals as goal

pub known_batch-requires : goal.known_batch-requires
known_batch-requires c =
    held_digest c.args.batches.now c.args.digest.now c.args.batch c.in-Ok-Some.held.now c.requires.digested
    (rw c.in-Ok-Some.field-0-is at c.in-Ok-Some.ensures.ok)

pub new_batch-requires-clause-fresh : goal.new_batch-requires-clause-fresh
new_batch-requires-clause-fresh c = rw c.in-Ok-None.field-0-is at c.in-Ok-None.ensures.ok

pub returns-in-Ok-Some-clause-answer : goal.returns-in-Ok-Some-clause-answer
returns-in-Ok-Some-clause-answer c = λ node state event came has.
    let stock = c.args.batches.now in
    let batch = c.args.batch in
    let is = batch_answered node state stock event batch came has
    ∙ ap (answered_by node batch) (rw c.in-Ok-Some.field-0-is at c.in-Ok-Some.ensures.ok) in
    subst (λ a. IsAnswer a c.known_batch.result) (sym is) (c.known_batch.ensures.answer node (the_own node state stock c.args.own has c.requires.own))

pub returns-in-Ok-Some-clause-refused : goal.returns-in-Ok-Some-clause-refused
returns-in-Ok-Some-clause-refused c = λ node state event came has refusal refused.
    let batch = c.args.batch in
    let is = batch_answered node state c.args.batches.now event batch came has
    ∙ ap (answered_by node batch) (rw c.in-Ok-Some.field-0-is at c.in-Ok-Some.ensures.ok) in
    let same : ◌≡◌ {A = Admission} (Known (batch_outputs node c.in-Ok-Some.held.now)) (Refused refusal) = sym is ∙ refused in
    absurd cc

pub returns-in-Ok-None-clause-answer : goal.returns-in-Ok-None-clause-answer
returns-in-Ok-None-clause-answer c = λ node state event came has.
    let stock = c.args.batches.now in
    let batch = c.args.batch in
    let is = batch_answered node state stock event batch came has
    ∙ ap (answered_by node batch) (rw c.in-Ok-None.field-0-is at c.in-Ok-None.ensures.ok) in
    subst (λ a. IsAnswer a c.new_batch.result) (sym is) (c.new_batch.ensures.answer node (the_own node state stock c.args.own has c.requires.own))

pub returns-in-Ok-None-clause-refused : goal.returns-in-Ok-None-clause-refused
returns-in-Ok-None-clause-refused c = λ node state event came has refusal refused.
    let batch = c.args.batch in
    let is = batch_answered node state c.args.batches.now event batch came has
    ∙ ap (answered_by node batch) (rw c.in-Ok-None.field-0-is at c.in-Ok-None.ensures.ok) in
    let same : ◌≡◌ {A = Admission} (New (batch_outputs node batch)) (Refused refusal) = sym is ∙ refused in
    absurd cc

pub returns-in-Ok-None-clause-new : goal.returns-in-Ok-None-clause-new
returns-in-Ok-None-clause-new c = λ new node state event came has.
    let stock = c.args.batches.now in
    let batch = c.args.batch in
    after_as (λ s. HasBatches node s c.new_batch.new.batches) node state event (message.Batch batch) came
    (subst (λ s. HasBatches node (state_after node state (message.Batch batch)) s) (sym (c.new_batch.ensures.new new)) (batch_comes node state stock batch has))

pub returns-in-Err-clause-answer : goal.returns-in-Err-clause-answer
returns-in-Err-clause-answer c = λ node state event came has.
    let batch = c.args.batch in
    inr (batch_answered node state c.args.batches.now event batch came has ∙ ap (answered_by node batch) c.in-Err.ensures.err
    ∙ ap (λ r. Refused r) (sym c.refusal_of.ensures))

pub returns-in-Err-clause-refused : goal.returns-in-Err-clause-refused
returns-in-Err-clause-refused c = λ node state event came has refusal refused.
    let batch = c.args.batch in
    let both : ◌≡◌ {A = Admission} (Refused (as_refusal c.in-Err.refusal)) (Refused refusal) =
    sym (batch_answered node state c.args.batches.now event batch came has ∙ ap (answered_by node batch) c.in-Err.ensures.err) ∙ refused in
    let same : as_refusal c.in-Err.refusal ≡ refusal = cc in
    ap (λ r. Err r) (c.refusal_of.ensures ∙ same)
