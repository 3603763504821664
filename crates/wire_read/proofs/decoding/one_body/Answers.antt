use Rattle.wire_read.proofs.Messages.{one_body}
use Rattle.wire_read.proofs.decoding.one_body.Goals as goal

pub returns : goal.returns
returns c = one_body
