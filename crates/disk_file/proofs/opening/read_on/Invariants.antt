use Rattle.std.proofs.Common.{◌-◌, ◌≤◌}
use Rattle.disk_file.specs.Stories.{GoesOnFor}
use Rattle.disk_file.proofs.opening.read_on.Given as goal

abbrev pub decreases-loop-at : goal.decreases-loop-at
decreases-loop-at l = l.len - l.at

abbrev pub invariant-loop-at : goal.invariant-loop-at
invariant-loop-at l = record {
  from : l.from ≤ l.at;
  within : l.at ≤ l.len;
  so_far : GoesOnFor (l.at - l.from) l.initial.tape l.tape;
}
