use Rattle.std.proofs.Common.{rules, ◌∷◌, Some, ap, sym, ◌∙◌}
use Rattle.atomic_table.specs.Table.{rest}
use Rattle.node_lock.proofs.guard.Lock.open.Goals as goal

pub exchange-requires : goal.exchange-requires
exchange-requires g c = let held = c.requires.held in (search rules, (Some held.0, held.1 ∙ ap (λ others. (0, Some held.0) ∷ rest others) (sym held.1)))
