use Rattle.std.proofs.Common.{◌≡◌, length, take}
use Rattle.std.specs.FinMap as map
use Rattle.checkpoint.proofs.parts.votes.votes_of.Given as goal

-- the votes before the place are found
abbrev pub invariant-loop-place : goal.invariant-loop-place
invariant-loop-place l = record {
  are : l.found.items ≡ take l.place (map.entries l.votes);
  count : length l.found.items ≡ l.place;
}
