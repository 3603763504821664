use Rattle.std.proofs.Common.{◌≡◌, ◌++◌, take, drop}
use Rattle.std.specs.List.{flat_map}
use Rattle.std.specs.Int.{w64, to_be_bytes}
use Rattle.checkpoint.proofs.records.pieces.put_values.Given as goal

-- the values before the offset have been put
abbrev pub invariant-loop-offset : goal.invariant-loop-offset
invariant-loop-offset l = l.bytes.items ≡ l.initial.bytes.items ++ flat_map (to_be_bytes w64) (take l.offset (drop l.from l.coins))
