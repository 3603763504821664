use Rattle.std.proofs.Common.{ap, sym, ◌∙◌}
use Rattle.std.specs.Prelude.{not}
use Rattle.wire.specs.declared.message.Message.TheVariants as message
use Rattle.spec_model.specs.Admitting.{is_new}
use Rattle.batchstore.specs.Stock.{batch_in}
use Rattle.admission.proofs.Answering.{answered_as, held_is_known, new_if_room}
use Rattle.admission.proofs.batches.is_new_batch.Goals as goal

pub returns-in-Some : goal.returns-in-Some
returns-in-Some c = λ batch digested node state event came has.
    let stock = c.args.batches.now in
    sym (ap is_new (answered_as node state event (message.Batch batch) came)
    ∙ held_is_known node state stock batch c.in-Some.field-0.now has (c.in-Some.ensures ∙ ap (batch_in stock) digested))

pub returns-in-None : goal.returns-in-None
returns-in-None c = λ batch digested node state event came has.
    let stock = c.args.batches.now in
    ap not c.is_full.ensures
    ∙ sym (ap is_new (answered_as node state event (message.Batch batch) came) ∙ new_if_room node state stock batch has (c.in-None.ensures ∙ ap (batch_in stock) digested))
