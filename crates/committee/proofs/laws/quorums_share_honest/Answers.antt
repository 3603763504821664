use Rattle.std.proofs.Common.{arith}
use Rattle.std.specs.Prelude.{◌&&◌, ◌||◌, not}
use Rattle.committee.proofs.Weights.{weight-or-and, weight-most, weight-without, some_of_weight}
use Rattle.committee.proofs.laws.quorums_share_honest.Goals as goal

pub returns : goal.returns
returns c charter faulty first second is few quorum quorum' =
    let both = weight-or-and charter first second in
    let most = weight-most charter (λ m. first m || second m) is.staked in
    let honest = weight-without charter (λ m. first m && second m) faulty in
    some_of_weight charter (λ m. (first m && second m) && not (faulty m)) (omega (arith, both, most, honest, few, quorum, quorum'))
