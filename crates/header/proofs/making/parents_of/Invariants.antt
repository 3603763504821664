use Rattle.std.proofs.Common.{◌≡◌, ◌++◌, drop, length}
use Rattle.header.proofs.making.parents_of.Given as goal

-- those so far and those that are left are all
abbrev pub invariant-loop-parent : goal.invariant-loop-parent
invariant-loop-parent l =
    record {
      all : l.named ++ drop l.parent-index l.parents ≡ l.parents;
      count : length l.named ≡ l.parent-index;
    }
