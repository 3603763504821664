use Rattle.wire_read.proofs.Passing.{Passed}
use Rattle.wire_read.proofs.transactions.transactions_of.Given as goal

-- the transactions so far were passed over
abbrev pub invariant-loop : goal.invariant-loop
invariant-loop l = Passed l.count l.counter l.len l.reader l.fn.reader
