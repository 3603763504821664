use Rattle.std.proofs.Common.{List, ℕ, ◌++◌, length, take}
use Rattle.std.specs.Int.{w16, to_be_bytes}
use Rattle.std.specs.List.{flat_map}
use Rattle.sha2.specs.Hashers.{Holds256}
use Rattle.wire.specs.Encoding.{parent_reference_bytes}
use Rattle.wire.proofs.digests.feed_parents.Given as goal

-- the count and the parents so far were fed
abbrev pub invariant-loop-parent : goal.invariant-loop-parent
invariant-loop-parent l = (m : List ℕ) → Holds256 l.fn.hasher m → Holds256 l.hasher (m ++ (to_be_bytes w16 (length l.parents) ++ flat_map parent_reference_bytes (take l.parent-index l.parents)))
