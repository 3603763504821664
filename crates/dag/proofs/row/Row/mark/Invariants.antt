use Rattle.std.proofs.Common.{◌≡◌}
use Rattle.committee.specs.Sets.{has}
use Rattle.dag.proofs.Changing.{marked_up_to}
use Rattle.dag.proofs.row.Row.mark.Given as goal

-- the slots so far have their marks, and the others are as they were
abbrev pub invariant-loop-i : goal.invariant-loop-i
invariant-loop-i l =
    record {
      slots : l.self-inside.slots.items ≡ marked_up_to (has l.authors) l.fn.self l.i;
      unmarked : l.self-inside.unmarked ≡ l.initial.self-inside.unmarked;
    }
