use Rattle.std.proofs.Common.{◌≡◌, ◌++◌, take}
use Rattle.std.specs.List.{flat_map}
use Rattle.std.specs.Int.{w64, to_be_bytes}
use Rattle.ref_checkpoint.proofs.writing.put_values.Given as goal

-- those so far have been put
abbrev pub invariant-loop-coin : goal.invariant-loop-coin
invariant-loop-coin l = l.bytes.items ≡ l.initial.bytes.items ++ flat_map (to_be_bytes w64) (take l.coin-index l.coins)
