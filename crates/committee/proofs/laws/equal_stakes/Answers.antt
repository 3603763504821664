use Rattle.std.proofs.Common.{arith}
use Rattle.committee.proofs.StakeLemmas.{total_of_ones}
use Rattle.committee.proofs.Weights.{equal-weight}
use Rattle.committee.proofs.laws.equal_stakes.Goals as goal

pub returns : goal.returns
returns c charter is ones =
    let total = total_of_ones charter is.staked ones in
    record {
      total = total;
      weight = λ holds. equal-weight charter holds is.staked ones;
      sizes = λ f size. record { quorum = omega (arith, total, size); support = omega (arith, total, size); tolerated = omega (arith, total, size) };
    }
