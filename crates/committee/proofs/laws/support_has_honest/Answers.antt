use Rattle.std.proofs.Common.{arith}
use Rattle.std.specs.Prelude.{◌&&◌, not}
use Rattle.committee.proofs.StakeLemmas.{total-bounds}
use Rattle.committee.proofs.Weights.{weight-without, some_of_weight}
use Rattle.committee.proofs.laws.support_has_honest.Goals as goal

pub returns : goal.returns
returns c charter faulty support is few enough =
    let some = (total-bounds charter is).0 in
    let least = is.size.0 in
    let honest = weight-without charter support faulty in
    some_of_weight charter (λ m. support m && not (faulty m)) (omega (arith, some, least, honest, few, enough))
