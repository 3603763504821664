use Rattle.test_parts.proofs.Beginning.{begins}
use Rattle.test_parts.proofs.Headers.{digests}
use Rattle.test_parts.proofs.accords.alike.digests_begin.Goals as goal

pub returns : goal.returns
returns c = begins digests c.args.one.now c.args.other.now c.starts_with.result c.starts_with.ensures.value
