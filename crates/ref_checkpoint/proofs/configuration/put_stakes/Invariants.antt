use Rattle.std.proofs.Common.{◌≡◌, ◌++◌, take}
use Rattle.std.specs.List.{flat_map}
use Rattle.std.specs.Int.{w32, to_be_bytes}
use Rattle.ref_checkpoint.proofs.configuration.put_stakes.Given as goal

-- those so far have been put
abbrev pub invariant-loop-stake : goal.invariant-loop-stake
invariant-loop-stake l = l.bytes.items ≡ l.initial.bytes.items ++ flat_map (to_be_bytes w32) (take l.stake-index l.stakes)
