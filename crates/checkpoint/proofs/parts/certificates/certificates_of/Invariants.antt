use Rattle.std.proofs.Common.{◌≡◌, map, take}
use Rattle.std.specs.Prelude.{filter}
use Rattle.dag.specs.Graph.{certificates_in}
use Rattle.checkpoint.specs.Parts.{digested, is_above}
use Rattle.checkpoint.proofs.parts.certificates.certificates_of.Given as goal

-- of the certificates before the place those above the genesis are found
abbrev pub invariant-loop-place : goal.invariant-loop-place
invariant-loop-place l = l.found.items ≡ map digested (filter is_above (take l.place (certificates_in l.dag)))
