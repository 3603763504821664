use Rattle.std.proofs.Common.{◌≡◌, ◌-◌, ◌≤◌, length}
use Rattle.wire.specs.declared.limits.TheConstants.{MAX_VOTES}
use Rattle.wire.specs.Reading.{more_at, vote_entry_at, votes_at}
use Rattle.wire_read.proofs.lists.votes_of.Given as goal

-- those that are still read, after those so far, are all
abbrev pub invariant-loop : goal.invariant-loop
invariant-loop l = record {
  limit : l.count ≤ MAX_VOTES;
  so_many : length l.votes ≡ l.counter;
  so_far : more_at vote_entry_at (l.count - l.counter) l.votes l.reader ≡ votes_at l.fn.reader;
}
