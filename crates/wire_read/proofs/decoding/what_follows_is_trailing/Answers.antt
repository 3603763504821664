use Rattle.wire_read.proofs.Messages.{trailing}
use Rattle.wire_read.proofs.decoding.what_follows_is_trailing.Goals as goal

pub returns : goal.returns
returns c = trailing
