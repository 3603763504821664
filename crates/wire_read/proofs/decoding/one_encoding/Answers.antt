use Rattle.wire_read.proofs.Messages.{one_message}
use Rattle.wire_read.proofs.decoding.one_encoding.Goals as goal

pub returns : goal.returns
returns c = one_message
