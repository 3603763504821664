use Rattle.wire_read.proofs.Beginnings.{beginnings_are_short}
use Rattle.wire_read.proofs.decoding.beginnings_are_short.Goals as goal

pub returns : goal.returns
returns c = beginnings_are_short
