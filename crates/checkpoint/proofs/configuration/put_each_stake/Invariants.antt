use Rattle.std.proofs.Common.{◌≡◌, ◌+◌, ◌*◌, ◌++◌, length, take}
use Rattle.std.specs.Int.{w32, to_be_bytes}
use Rattle.std.specs.List.{flat_map}
use Rattle.journal.specs.declared.configuration.TheConstants.{STAKE_BYTES}
use Rattle.checkpoint.proofs.configuration.put_each_stake.Given as goal

-- each member's stake so far has been added
abbrev pub invariant-loop-member : goal.invariant-loop-member
invariant-loop-member l = record {
  stakes : l.bytes.items ≡ l.initial.bytes.items ++ flat_map (to_be_bytes w32) (take l.member l.committee.stakes);
  len : length l.bytes.items ≡ length l.initial.bytes.items + l.member * STAKE_BYTES;
}
