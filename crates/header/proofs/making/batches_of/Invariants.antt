use Rattle.std.proofs.Common.{◌≡◌, ◌++◌, drop, length}
use Rattle.header.proofs.making.batches_of.Given as goal

-- those so far and those that are left are all
abbrev pub invariant-loop-batch : goal.invariant-loop-batch
invariant-loop-batch l =
    record {
      all : l.named ++ drop l.batch-index l.batches ≡ l.batches;
      count : length l.named ≡ l.batch-index;
    }
