use Rattle.std.proofs.Common.{List, ℕ, sym, subst}
use Rattle.diskmodel.specs.Outcomes.{IsOutcome}
use Rattle.diskmodel.proofs.Kept.{durable_possible}
use Rattle.diskmodel.proofs.memory.MemDisk.durable.Goals as goal

pub returns-clause-outcome : goal.returns-clause-outcome
returns-clause-outcome c =
    subst (λ (found : List ℕ). IsOutcome c.args.self.now.history.first.items c.args.self.now.history.calls.items found)
    (sym c.deref.ensures.value) (durable_possible _ _ _ _ _ _ _ c.args.self.now.history.kept)
