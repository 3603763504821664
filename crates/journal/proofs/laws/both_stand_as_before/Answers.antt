use Rattle.journal.proofs.Reporting.{both_stand_as_before}
use Rattle.journal.proofs.laws.both_stand_as_before.Goals as goal

pub returns : goal.returns
returns g c = λ first second left right. both_stand_as_before (g.D.Disk.device.outcome first) (g.D.Disk.device.outcome second) left right
