use Rattle.wire_read.proofs.Beginnings.{faults_stay}
use Rattle.wire_read.proofs.decoding.faults_stay.Goals as goal

pub returns : goal.returns
returns c = faults_stay
