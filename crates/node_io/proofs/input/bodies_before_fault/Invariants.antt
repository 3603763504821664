use Rattle.std.proofs.Common.{◌≡◌, ℕ, List, ◌++◌, length}
use Rattle.wire_read.specs.Frames.{bodies_bytes}
use Rattle.node_io.specs.Cutting.{Takes}
use Rattle.node_io.proofs.input.bodies_before_fault.Given as goal

-- what stands before the rest is taken
abbrev pub invariant-loop-byte : goal.invariant-loop-byte
invariant-loop-byte l = (taken : List ℕ) × (l.piece ≡ taken ++ l.rest) × Takes l.fn.frames taken (bodies_bytes l.all.items) l.frames

abbrev pub decreases-loop-byte : goal.decreases-loop-byte
decreases-loop-byte l = length l.rest
