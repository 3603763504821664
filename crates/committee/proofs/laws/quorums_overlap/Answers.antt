use Rattle.std.proofs.Common.{arith}
use Rattle.std.specs.Prelude.{◌||◌}
use Rattle.committee.proofs.Weights.{weight-or-and, weight-most}
use Rattle.committee.proofs.laws.quorums_overlap.Goals as goal

pub returns : goal.returns
returns c charter first second is quorum quorum' =
    omega (arith, weight-or-and charter first second, weight-most charter (λ m. first m || second m) is.staked)
