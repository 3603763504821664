use Rattle.std.proofs.Common.{◌≡◌, ◌+◌, ◌-◌, ◌<◌, length, drop}
use Rattle.journal.specs.Format.{with_front, walk}
use Rattle.journal.proofs.reading.walk_from.Given as goal

-- the records so far, and then those from this gate on, are those of the file
abbrev pub invariant-loop-gate : goal.invariant-loop-gate
invariant-loop-gate l = record { inside : l.gate < length l.bytes; found : with_front l.records.items (walk (l.base + l.gate) 0 (drop l.gate l.bytes)) ≡ walk l.base 0 l.bytes }

abbrev pub decreases-loop-gate : goal.decreases-loop-gate
decreases-loop-gate l = length l.bytes - l.gate
