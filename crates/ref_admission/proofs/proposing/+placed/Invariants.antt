use Rattle.std.proofs.Common.{length}
use Rattle.ref_admission.proofs.proposing.+placed.Given as goal

abbrev pub decreases-placed : goal.decreases-placed
decreases-placed l = length l.batches.now
