use Rattle.std.proofs.Common.{sym, subst}
use Rattle.diskmodel.specs.Disk.{LeavesOnly}
use Rattle.disk_file.specs.declared.story.TapeView.{TapeView}
use Rattle.disk_file.specs.Stories.{held, MayLeave}
use Rattle.disk_file.proofs.Steps.{durable_begun}
use Rattle.disk_file.proofs.disk.FileDisk.open.Goals as goal

pub returns-clause-durable : goal.returns-clause-durable
returns-clause-durable g c =
    subst (λ (story : TapeView). LeavesOnly (held story) (MayLeave story)) (sym c.in_ok-begin.ensures.story) (durable_begun c.in_ok-bytes.bytes.items)
