use Rattle.std.proofs.Common.{◌≡◌, ◌++◌, map, take}
use Rattle.spec_checkpoint.specs.Records.{certificate_record}
use Rattle.ref_checkpoint.specs.Lists.{contents}
use Rattle.ref_checkpoint.proofs.writing.put_certificates.Given as goal

-- those so far have been put
abbrev pub invariant-loop-certificate : goal.invariant-loop-certificate
invariant-loop-certificate l = contents l.rows.items ≡ contents l.initial.rows.items ++ map certificate_record (take l.certificate-index l.certificates)
