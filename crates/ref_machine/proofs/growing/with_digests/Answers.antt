use Rattle.spec_model.specs.Slots.{same_digest}
use Rattle.spec_model.specs.Words.{BatchReference, Digest}
use Rattle.ref_machine.proofs.Lists.{any_with}
use Rattle.ref_machine.proofs.growing.with_digests.Goals as goal

pub returns : goal.returns
returns c = λ digest.
    any_with (λ (b : BatchReference). b.digest) (λ (named : Digest). same_digest named digest) c.args.named.items c.loop-batch.named.items c.args.batches.now
    c.loop-batch.batch-index c.loop-batch-test.false c.loop-batch.invariant
