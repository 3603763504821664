use Rattle.std.proofs.Common.{◌≡◌, Bool, [], length, Ok, Err, true, false, inl, inr, refl, ap, sym, subst, ◌∙◌}
use Rattle.std.specs.Prelude.{◌&&◌, not, if◌then◌else◌}
use Rattle.std.proofs.lemmas.Bool.{lt-ltb, and_parts, and_from, not-true, false_from_ne_true, true_from_ne_false}
use Rattle.wire.specs.declared.message.Message.TheVariants as message
use Rattle.header.specs.declared.admission.Admission.TheVariants.{New, Known, Refused}
use Rattle.header.specs.declared.admission.Admission.{Admission}
use Rattle.header.specs.declared.refusal.Refusal.TheVariants.{NotOurs}
use Rattle.batchstore.specs.declared.refusal.StoreRefusal.TheVariants as store
use Rattle.batchstore.specs.Answer.{is_member}
use Rattle.batchstore.specs.Stock.{has_own, holds}
use Rattle.admission.specs.Batches.{HasBatches, as_refusal}
use Rattle.admission.proofs.Answering.{answered_as, after_as, ack_not_ours, ack_ours, not_refused}
use Rattle.admission.proofs.BatchesAfter.{state_after, ack_comes}
use Rattle.admission.proofs.batches.take_ack.Goals as goal

not_both : (member own : Bool) → own ≡ false → not (member && own) ≡ true
not_both true own is = ap not is
not_both false own is = refl

-- what isn't ours of a member is no own batch
not_own : (member own : Bool) → member ≡ true → not (member && own) ≡ true → own ≡ false
not_own true own is none = not-true own none
not_own false own is none = absurd cc

pub returns-in-Ok-New-clause-answer : goal.returns-in-Ok-New-clause-answer
returns-in-Ok-New-clause-answer c = λ node state event came has.
    let stock = c.args.batches.now in
    let ack = c.args.ack.now in
    let own : has_own stock ack.batch ≡ true = true_from_ne_false (has_own stock ack.batch)
    (λ isnt. let bad = c.in-Ok-New.ensures.not_ours.1 (not_both (is_member stock ack.author.0) _ isnt) in absurd cc) in
    let other : holds stock ack.batch ack.author.0 ≡ false =
    false_from_ne_true (holds stock ack.batch ack.author.0) (λ is. let same = c.in-Ok-New.ensures.known.1 (and_from _ _ own is) in let new = c.in-Ok-New.field-0-is in absurd cc) in
    answered_as node state event (message.BatchAck ack) came ∙ ack_ours node state stock ack has own ∙ ap (λ b. if b then Known [] else New []) other
    ∙ ap (λ l. New l) (sym c.new.ensures.items)

pub returns-in-Ok-New-clause-refused : goal.returns-in-Ok-New-clause-refused
returns-in-Ok-New-clause-refused c = λ node state event came has refusal is.
    let stock = c.args.batches.now in
    let ack = c.args.ack.now in
    let own : has_own stock ack.batch ≡ true = true_from_ne_false (has_own stock ack.batch)
    (λ isnt. let bad = c.in-Ok-New.ensures.not_ours.1 (not_both (is_member stock ack.author.0) _ isnt) in absurd cc) in
    absurd (not_refused (holds stock ack.batch ack.author.0) refusal (sym (answered_as node state event (message.BatchAck ack) came ∙ ack_ours node state stock ack has own) ∙ is))

pub returns-in-Ok-New-clause-new : goal.returns-in-Ok-New-clause-new
returns-in-Ok-New-clause-new c = λ new node state event came has.
    let stock = c.args.batches.now in
    let ack = c.args.ack.now in
    let own : has_own stock ack.batch ≡ true = true_from_ne_false (has_own stock ack.batch)
    (λ isnt. let bad = c.in-Ok-New.ensures.not_ours.1 (not_both (is_member stock ack.author.0) _ isnt) in absurd cc) in
    after_as (λ s. HasBatches node s c.ack.new.self) node state event (message.BatchAck ack) came
    (subst (λ s. HasBatches node (state_after node state (message.BatchAck ack)) s) (sym (c.in-Ok-New.ensures.new (ap (λ a. Ok a) c.in-Ok-New.field-0-is))) (ack_comes node state stock ack own has))

pub returns-in-Ok-Known-clause-answer : goal.returns-in-Ok-Known-clause-answer
returns-in-Ok-Known-clause-answer c = λ node state event came has.
    let stock = c.args.batches.now in
    let ack = c.args.ack.now in
    let both = and_parts (has_own stock ack.batch) (holds stock ack.batch ack.author.0) (c.in-Ok-Known.ensures.known.0 (ap (λ a. Ok a) c.in-Ok-Known.field-0-is)) in
    answered_as node state event (message.BatchAck ack) came ∙ ack_ours node state stock ack has both.0 ∙ ap (λ b. if b then Known [] else New []) both.1
    ∙ ap (λ l. Known l) (sym c.new-in-Ok-Known.ensures.items)

pub returns-in-Ok-Known-clause-refused : goal.returns-in-Ok-Known-clause-refused
returns-in-Ok-Known-clause-refused c = λ node state event came has refusal is.
    let stock = c.args.batches.now in
    let ack = c.args.ack.now in
    let both = and_parts (has_own stock ack.batch) (holds stock ack.batch ack.author.0) (c.in-Ok-Known.ensures.known.0 (ap (λ a. Ok a) c.in-Ok-Known.field-0-is)) in
    absurd (not_refused (holds stock ack.batch ack.author.0) refusal (sym (answered_as node state event (message.BatchAck ack) came ∙ ack_ours node state stock ack has both.0) ∙ is))

pub returns-in-Err-clause-answer : goal.returns-in-Err-clause-answer
returns-in-Err-clause-answer c = λ node state event came has.
    let stock = c.args.batches.now in
    let ack = c.args.ack.now in
    elim c.in-Err.ensures.memory [
      | inl ours ↦
          let is : c.in-Err.refusal ≡ store.NotOurs = cc in
          let own : has_own stock ack.batch ≡ false = not_own (is_member stock ack.author.0) (has_own stock ack.batch)
          (lt-ltb ack.author.0 (length stock.charter.keys) c.requires) (c.in-Err.ensures.not_ours.0 ours) in
          inr (answered_as node state event (message.BatchAck ack) came ∙ ack_not_ours node state stock ack has own ∙ ap (λ r. Refused r) (sym (c.refusal_of.ensures ∙ ap as_refusal is)))
      | inr memory ↦
          let is : c.in-Err.refusal ≡ store.Memory = cc in
          inl (c.refusal_of.ensures ∙ ap as_refusal is)
    ]

pub returns-in-Err-clause-refused : goal.returns-in-Err-clause-refused
returns-in-Err-clause-refused c = λ node state event came has refusal refused.
    let stock = c.args.batches.now in
    let ack = c.args.ack.now in
    elim c.in-Err.ensures.memory [
      | inl ours ↦
          let is : c.in-Err.refusal ≡ store.NotOurs = cc in
          let own : has_own stock ack.batch ≡ false = not_own (is_member stock ack.author.0) (has_own stock ack.batch)
          (lt-ltb ack.author.0 (length stock.charter.keys) c.requires) (c.in-Err.ensures.not_ours.0 ours) in
          let both : ◌≡◌ {A = Admission} (Refused NotOurs) (Refused refusal) = sym (answered_as node state event (message.BatchAck ack) came ∙ ack_not_ours node state stock ack has own) ∙ refused in
          let same : NotOurs ≡ refusal = cc in
          ap (λ r. Err r) (c.refusal_of.ensures ∙ ap as_refusal is ∙ same)
      | inr memory ↦
          let own : has_own stock ack.batch ≡ true = true_from_ne_false (has_own stock ack.batch)
          (λ isnt. let ours = c.in-Err.ensures.not_ours.1 (not_both (is_member stock ack.author.0) _ isnt) in absurd cc) in
          absurd (not_refused (holds stock ack.batch ack.author.0) refusal (sym (answered_as node state event (message.BatchAck ack) came ∙ ack_ours node state stock ack has own) ∙ refused))
    ]
