use Rattle.std.proofs.Common.{ℕ, rules, arith}
use Rattle.node_lock.proofs.Steps.{may_take}
use Rattle.node_lock.proofs.guard.Lock.take_wanted.Goals as goal

pub swap-requires : goal.swap-requires
swap-requires g c = (search rules, search rules, may_take _ _ _ _ _ (λ (_ : ℕ). 2) (λ _ is. omega (arith, is)) (search rules) c.requires.empty)
