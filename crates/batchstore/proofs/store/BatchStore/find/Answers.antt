use Rattle.std.proofs.Common.{ap, ◌∙◌}
use Rattle.batchstore.specs.Stock.{BatchStoreView, held_at}
use Rattle.batchstore.proofs.store.BatchStore.find.Goals as goal

pub returns-clause-held : goal.returns-clause-held
returns-clause-held c = c.find.ensures.held ∙ ap (λ (s : BatchStoreView). held_at s c.args.digest.now) c.self.view_is

pub returns-clause-place : goal.returns-clause-place
returns-clause-place c = rw (← c.self.view_is) c.find.ensures.place
