use Rattle.spec_laws.proofs.InSlots.{one_certificate}
use Rattle.spec_laws.proofs.one_certificate.Goals as goal

pub returns : goal.returns
returns c = one_certificate
