use Rattle.std.proofs.Common.{◌≡◌, take}
use Rattle.checkpoint.proofs.parts.coins_of.Given as goal

-- the coins before the place are found
abbrev pub invariant-loop-place : goal.invariant-loop-place
invariant-loop-place l = l.values.items ≡ take l.place l.coins
