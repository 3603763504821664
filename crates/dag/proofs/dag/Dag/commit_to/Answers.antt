use Rattle.std.proofs.Common.{arith}
use Rattle.dag.proofs.Changing.{rebased}
use Rattle.dag.proofs.dag.Dag.commit_to.Goals as goal

pub invariant_of-self : goal.invariant_of-self
invariant_of-self c =
    let inside = c.self.inside in
    let round = c.args.round in
    rebased inside.committee.now inside.floor inside.base round inside.rows.items c.self.invariant
    (omega (arith, c.if-number.true, c.number.ensures.value, c.number-2.ensures.value))
    (omega (arith, c.number-2.ensures.value, c.number-2.ensures.limit))
