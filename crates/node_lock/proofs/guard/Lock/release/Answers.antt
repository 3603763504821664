use Rattle.std.proofs.Common.{rules}
use Rattle.node_lock.proofs.Steps.{may_give}
use Rattle.node_lock.proofs.guard.Lock.release.Goals as goal

pub swap-found-requires : goal.swap-found-requires
swap-found-requires g c = (search rules, search rules, may_give _ _ _ _ c.args.value (search rules) (search rules))
