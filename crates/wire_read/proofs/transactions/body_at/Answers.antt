use Rattle.std.proofs.Common.{arith}
use Rattle.wire_read.proofs.Passing.{body_is}
use Rattle.wire_read.proofs.transactions.body_at.Goals as goal

pub returns : goal.returns
returns c =
    body_is c.in_ok-author.author c.in_ok-worker.worker c.in_ok-count.count c.in_ok-count.len c.args.bytes.now _ _ _ (λ i. omega (arith, c.type_inv.bytes i))
    (rw c.new-reader.ensures at c.in_ok-author.ensures) c.in_ok-worker.ensures c.in_ok-count.ensures
