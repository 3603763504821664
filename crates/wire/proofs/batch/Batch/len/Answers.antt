use Rattle.std.proofs.Common.{sym, drop}
use Rattle.wire.proofs.Transactions.{so_many}
use Rattle.wire.proofs.batch.Batch.len.Goals as goal

pub returns : goal.returns
returns c = rw (← c.self.view_is) (sym (so_many c.self.inside.count (drop 8 c.self.inside.body)))
