use Rattle.std.proofs.Common.{◌≡◌, Bool, true, false, Some, None, refl, ap, sym, ◌∙◌}
use Rattle.std.specs.Prelude.{◌&&◌, not, if◌then◌else◌}
use Rattle.std.specs.Option.{option_eq}
use mathlib.Core.Bool.{beq}
use Rattle.wire.specs.declared.message.Message.TheVariants as message
use Rattle.spec_model.specs.Admitting.{is_new}
use Rattle.batchstore.specs.Stock.{has_own, holds}
use Rattle.admission.proofs.Answering.{answered_as, new_if_uncounted}
use Rattle.admission.proofs.batches.is_new_ack.Goals as goal

-- an own batch is held, and the member isn't counted
uncounted : (own counted : Bool) → option_eq beq (if own then Some counted else None) (Some false) ≡ (own && not counted)
uncounted false counted = refl
uncounted true true = refl
uncounted true false = refl

pub returns : goal.returns
returns c = λ node state event came has.
    let stock = c.args.batches.now in
    let ack = c.args.ack.now in
    c.eq.ensures ∙ ap (λ found. option_eq beq found (Some false)) c.acked.ensures ∙ uncounted (has_own stock ack.batch) (holds stock ack.batch ack.author.0)
    ∙ sym (ap is_new (answered_as node state event (message.BatchAck ack) came) ∙ new_if_uncounted node state stock ack has)
