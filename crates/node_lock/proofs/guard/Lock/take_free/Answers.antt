use Rattle.std.proofs.Common.{rules}
use Rattle.node_lock.proofs.Steps.{may_take, marked}
use Rattle.node_lock.proofs.guard.Lock.take_free.Goals as goal

pub compare_exchange-requires : goal.compare_exchange-requires
compare_exchange-requires g c = (search rules, search rules, may_take _ _ _ _ _ _ marked (search rules) c.requires.empty)
