use Rattle.std.proofs.Common.{◌≡◌, ◌++◌, drop}
use Rattle.ref_machine.proofs.copying.batches_again.Given as goal

-- those so far and those that are left are all
abbrev pub invariant-loop-batch : goal.invariant-loop-batch
invariant-loop-batch l = l.found.items ++ drop l.batch-index l.batches ≡ l.fn.batches
