use Rattle.std.proofs.Common.{◌≡◌, ◌-◌, ◌≤◌, length}
use Rattle.wire.specs.declared.limits.TheConstants.{MAX_BATCHES}
use Rattle.wire.specs.Reading.{more_at, batch_reference_at, batches_at}
use Rattle.wire_read.proofs.lists.batches_of.Given as goal

-- those that are still read, after those so far, are all
abbrev pub invariant-loop : goal.invariant-loop
invariant-loop l = record {
  limit : l.count ≤ MAX_BATCHES;
  so_many : length l.batches ≡ l.counter;
  so_far : more_at batch_reference_at (l.count - l.counter) l.batches l.reader ≡ batches_at l.fn.reader;
}
