use Rattle.std.proofs.Common.{◌≡◌, ◌++◌, take}
use Rattle.std.specs.List.{flat_map}
use Rattle.wire.specs.declared.keys.Digest.{Digest}
use Rattle.checkpoint.proofs.records.pieces.put_digests.Given as goal

-- those so far have been put
abbrev pub invariant-loop-digest : goal.invariant-loop-digest
invariant-loop-digest l = l.bytes.items ≡ l.initial.bytes.items ++ flat_map (λ (d : Digest). d.0) (take l.digest-index l.digests)
