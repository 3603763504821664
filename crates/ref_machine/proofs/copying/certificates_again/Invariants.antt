use Rattle.std.proofs.Common.{◌≡◌, ◌++◌, drop}
use Rattle.ref_machine.proofs.copying.certificates_again.Given as goal

-- those so far and those that are left are all
abbrev pub invariant-loop-certificate : goal.invariant-loop-certificate
invariant-loop-certificate l = l.found.items ++ drop l.certificate-index l.certificates ≡ l.fn.certificates
