use Rattle.std.proofs.Common.{◌≡◌, ◌++◌, drop, length}
use Rattle.ref_admission.proofs.proposing.named.Given as goal

-- those so far and those that are left are all
abbrev pub invariant-loop-batch : goal.invariant-loop-batch
invariant-loop-batch l =
    record {
      all : l.found ++ drop l.batch-index l.batches ≡ l.batches;
      count : length l.found ≡ l.batch-index;
    }
