use Rattle.spec_model.proofs.Placing.{take-rises}
use Rattle.wire.specs.References.{digest_before}
use Rattle.ref_admission.proofs.proposing.named_batches.Goals as goal

pub named-requires-clause-order : goal.named-requires-clause-order
named-requires-clause-order g c =
    rw (c.first_of.ensures.value, c.deref.ensures.value)
    (take-rises (λ a b. digest_before a.digest b.digest) 128 c.in_ok-nameable.nameable.items c.in_ok-nameable.ensures.order)
