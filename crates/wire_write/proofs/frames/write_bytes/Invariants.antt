use Rattle.std.proofs.Common.{◌≡◌, ℕ, List, ◌++◌}
use Rattle.std.specs.Io.KnownBytes.{Appends}
use Rattle.wire_write.proofs.frames.write_bytes.Given as goal

abbrev pub invariant-loop : goal.invariant-loop
invariant-loop g l = (written : List ℕ) × Appends (g.W.Write.contents l.initial.writer) (g.W.Write.contents l.writer) written × (l.bytes ≡ written ++ l.rest)
