use Rattle.std.proofs.Common.{◌≡◌, ◌+◌, ◌*◌, ◌++◌, length, take}
use Rattle.std.specs.Int.{w16, to_be_bytes}
use Rattle.std.specs.List.{flat_map}
use Rattle.wire.specs.Encoding.{vote_entry_bytes}
use Rattle.wire.proofs.encoding.write_votes.Given as goal

-- the count and the votes so far were written
abbrev pub invariant-loop-vote : goal.invariant-loop-vote
invariant-loop-vote l = record {
  bytes : take l.next l.area ≡ take l.fn.place l.fn.area ++ (to_be_bytes w16 (length l.list) ++ flat_map vote_entry_bytes (take l.vote-index l.list));
  place : l.next ≡ l.fn.place + (2 + 66 * l.vote-index);
  len : length l.area ≡ length l.fn.area;
}
