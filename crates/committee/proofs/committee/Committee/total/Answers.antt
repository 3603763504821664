use Rattle.std.proofs.Common.{arith}
use Rattle.committee.proofs.StakeLemmas.{total-bounds}
use Rattle.committee.proofs.committee.Committee.total.Goals as goal

pub returns-clause-least : goal.returns-clause-least
returns-clause-least c =
    let bounds = total-bounds _ c.self.invariant.committee in
    let size = c.self.invariant.committee.size.0 in
    omega (arith, bounds.0, size, c.self.invariant.total_is)

pub returns-clause-greatest : goal.returns-clause-greatest
returns-clause-greatest c = omega (arith, (total-bounds _ c.self.invariant.committee).1, c.self.invariant.total_is)
