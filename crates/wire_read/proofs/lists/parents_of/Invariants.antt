use Rattle.std.proofs.Common.{◌≡◌, ◌-◌, ◌≤◌, length}
use Rattle.wire.specs.declared.limits.TheConstants.{MAX_PARENTS}
use Rattle.wire.specs.Reading.{more_at, parent_reference_at, parents_at}
use Rattle.wire_read.proofs.lists.parents_of.Given as goal

-- those that are still read, after those so far, are all
abbrev pub invariant-loop : goal.invariant-loop
invariant-loop l = record {
  limit : l.count ≤ MAX_PARENTS;
  so_many : length l.parents ≡ l.counter;
  so_far : more_at parent_reference_at (l.count - l.counter) l.parents l.reader ≡ parents_at l.fn.reader;
}
