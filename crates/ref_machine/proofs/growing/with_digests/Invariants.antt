use Rattle.std.proofs.Common.{◌≡◌, ◌++◌, drop, map}
use Rattle.wire.specs.declared.references.BatchReference.{BatchReference}
use Rattle.ref_machine.proofs.growing.with_digests.Given as goal

-- those so far and those of the batches that are left are all
abbrev pub invariant-loop-batch : goal.invariant-loop-batch
invariant-loop-batch l =
    l.named.items ++ map (λ (b : BatchReference). b.digest) (drop l.batch-index l.batches) ≡ l.fn.named.items ++ map (λ (b : BatchReference). b.digest) l.batches
