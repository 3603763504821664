use Rattle.std.proofs.Common.{◌-◌, arith}
use Rattle.tusk.proofs.Chains.{top_found}
use Rattle.tusk.proofs.coins.Coins.top.Goals as goal

pub returns : goal.returns
returns c =
    top_found c.args.dag.now c.limits_hold.ensures c.args.self.now (c.count-count.result - c.loop-past.past)
    (omega (arith, c.loop-past-test.false, c.saturating_sub-past-end.ensures, c.number-below.ensures.value, c.floor.ensures))
    c.loop-past.invariant
