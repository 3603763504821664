use Rattle.std.proofs.Common.{arith}
use Rattle.committee.proofs.StakeLemmas.{total-bounds}
use Rattle.committee.proofs.Weights.{weight-others}
use Rattle.committee.proofs.laws.honest_are_quorum.Goals as goal

pub returns : goal.returns
returns c charter faulty is few =
    let some = (total-bounds charter is).0 in
    let least = is.size.0 in
    omega (arith, weight-others charter faulty is.staked, few, some, least)
