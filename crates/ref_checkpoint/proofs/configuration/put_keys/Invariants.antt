use Rattle.std.proofs.Common.{◌≡◌, ◌++◌, take}
use Rattle.std.specs.List.{flat_map}
use Rattle.ref_checkpoint.proofs.configuration.put_keys.Given as goal

-- those so far have been put
abbrev pub invariant-loop-key : goal.invariant-loop-key
invariant-loop-key l = l.bytes.items ≡ l.initial.bytes.items ++ flat_map (λ key. key.0) (take l.key-index l.keys)
