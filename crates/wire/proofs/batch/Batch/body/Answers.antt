use Rattle.wire.specs.Batches.{contents_of}
use Rattle.wire.proofs.Transactions.{body_has}
use Rattle.wire.proofs.batch.Batch.body.Goals as goal

pub returns-clause-len : goal.returns-clause-len
returns-clause-len c = rw (c.as_slice.ensures, c.self.invariant.1, ← c.self.view_is) (body_has (contents_of c.self.inside.author c.self.inside.worker c.self.inside.count c.self.inside.body))

pub returns-clause-limit : goal.returns-clause-limit
returns-clause-limit c = rw (c.as_slice.ensures, c.self.invariant.1, body_has) c.self.invariant.0.short
