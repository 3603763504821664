use Rattle.std.proofs.Common.{length}
use Rattle.cluster.proofs.threads.+run_each.Given as goal

abbrev pub decreases-run_each : goal.decreases-run_each
decreases-run_each g l = length l.jobs.items
