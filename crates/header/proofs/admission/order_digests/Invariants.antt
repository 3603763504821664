use Rattle.std.proofs.Common.{◌≡◌, ◌++◌, drop, length}
use Rattle.header.proofs.admission.order_digests.Given as goal

-- those so far and those that are left are all
abbrev pub invariant-loop-digest : goal.invariant-loop-digest
invariant-loop-digest l =
    record {
      all : l.found ++ drop l.digest-index l.digests ≡ l.digests;
      count : length l.found ≡ l.digest-index;
    }
