use Rattle.std.proofs.Common.{◌≡◌, filter, take}
use Rattle.std.specs.Prelude.{◌==◌, not}
use Rattle.ref_checkpoint.proofs.held.above_genesis.Given as goal

-- those so far that are above the genesis have been found
abbrev pub invariant-loop-certificate : goal.invariant-loop-certificate
invariant-loop-certificate l = l.found.items ≡ filter (λ one. not (one.header.round == 0)) (take l.certificate-index l.certificates)
