use Rattle.std.proofs.Common.{◌≡◌, ℕ, ◌+◌, ◌*◌, ◌<◌, ◌++◌, length, get_or, take}
use Rattle.wire.specs.declared.keys.Digest.{Digest}
use Rattle.wire.specs.Fields.{IsDigest}
use Rattle.std.specs.Int.{w32, to_be_bytes}
use Rattle.std.specs.List.{flat_map}
use Rattle.wire.specs.Outputs.{digest_bytes}
use Rattle.wire.proofs.output_bytes.put_digests.Given as goal

-- the count and the digests so far were put
abbrev pub invariant-loop-digest : goal.invariant-loop-digest
invariant-loop-digest l = record {
  bytes : l.out.items ≡ l.fn.out.items ++ (to_be_bytes w32 (length l.list) ++ flat_map digest_bytes (take l.digest-index l.list));
  len : length l.out.items ≡ length l.fn.out.items + (4 + 32 * l.digest-index);
  each : (k : ℕ) (d : Digest) → k < l.digest-index → IsDigest (get_or l.list k d);
}
