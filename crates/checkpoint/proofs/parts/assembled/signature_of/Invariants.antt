use Rattle.std.specs.Prelude.{⊤}
use Rattle.checkpoint.proofs.parts.assembled.signature_of.Given as goal

abbrev pub invariant-loop-place : goal.invariant-loop-place
invariant-loop-place l = ⊤
