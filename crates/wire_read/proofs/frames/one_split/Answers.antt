use Rattle.wire_read.proofs.Streams.{same, either}
use Rattle.wire_read.proofs.frames.one_split.Goals as goal

pub returns-clause-same : goal.returns-clause-same
returns-clause-same c = same

pub returns-clause-either : goal.returns-clause-either
returns-clause-either c = either
