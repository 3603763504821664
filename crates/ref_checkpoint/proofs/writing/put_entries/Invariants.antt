use Rattle.std.proofs.Common.{◌≡◌, ◌++◌, take}
use Rattle.std.specs.List.{flat_map}
use Rattle.wire.specs.Encoding.{vote_entry_bytes}
use Rattle.ref_checkpoint.proofs.writing.put_entries.Given as goal

-- those so far have been put
abbrev pub invariant-loop-entry : goal.invariant-loop-entry
invariant-loop-entry l = l.bytes.items ≡ l.initial.bytes.items ++ flat_map vote_entry_bytes (take l.entry-index l.votes)
