use Rattle.std.proofs.Common.{◌≡◌, ◌+◌, ◌*◌, ◌++◌, length, take}
use Rattle.std.specs.List.{flat_map}
use Rattle.journal.specs.declared.configuration.TheConstants.{KEY_BYTES}
use Rattle.checkpoint.proofs.configuration.put_keys.Given as goal

-- each member's key so far has been added
abbrev pub invariant-loop-member : goal.invariant-loop-member
invariant-loop-member l = record {
  keys : l.bytes.items ≡ l.initial.bytes.items ++ flat_map (λ key. key.0) (take l.member l.committee.keys);
  len : length l.bytes.items ≡ length l.initial.bytes.items + l.member * KEY_BYTES;
}
