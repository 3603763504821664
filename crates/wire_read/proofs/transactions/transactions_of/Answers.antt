use Rattle.std.proofs.lemmas.Result.{err_from_is_err_and}
use Rattle.wire_read.proofs.Passing.{begins, passes, stops, passed_all}
use Rattle.wire_read.proofs.transactions.transactions_of.Goals as goal

pub loop-init : goal.loop-init
loop-init c = begins c.in_ok-count.count _ c.args.reader.now c.in_ok-count.ensures.reads

pub returns-in_err-transaction : goal.returns-in_err-transaction
returns-in_err-transaction c =
    let p = err_from_is_err_and c.from_residual-in_err-transaction.result c.from_residual-in_err-transaction.ensures.1 in
    rw (p.1, p.2) (stops c.in_err-transaction.field-0.0 c.in_ok-count.count c.loop.counter c.loop.len c.loop.reader c.args.reader.now c.loop.invariant c.loop-test.true
    c.in_err-transaction.ensures.reads)

pub transaction_of-requires : goal.transaction_of-requires
transaction_of-requires c = c.loop.invariant.within

pub loop-preserved : goal.loop-preserved
loop-preserved c =
    passes c.in_ok-count.count c.loop.counter c.loop.len c.loop.reader c.args.reader.now c.in_ok-transaction.transaction.now c.transaction_of.new.reader c.loop.invariant c.loop-test.true
    c.in_ok-transaction.ensures.reads c.in_ok-transaction.ensures.room

pub returns : goal.returns
returns c = passed_all c.in_ok-count.count c.loop.counter c.loop.len c.loop.reader c.args.reader.now c.loop.invariant c.loop-test.false
