use Rattle.std.proofs.Common.{◌≡◌, ◌+◌, ◌≤◌, ◌++◌, length, take, vec_len, vec_capacity}
use Rattle.sequencer.proofs.sequencer.add_all.Given as goal

-- those so far are after the others, and there is room for the rest
abbrev pub invariant-loop-digest : goal.invariant-loop-digest
invariant-loop-digest l = record {
  added : l.digests.items ≡ l.initial.digests.items ++ take l.digest-index l.more;
  room : vec_len l.digests + length l.more ≤ vec_capacity l.digests + l.digest-index;
}
