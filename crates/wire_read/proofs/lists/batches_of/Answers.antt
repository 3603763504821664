use Rattle.std.proofs.Common.{arith, length-append}
use Rattle.std.proofs.lemmas.Result.{err_from_is_err_and}
use Rattle.wire.specs.Reading.{batch_reference_at, batches_at}
use Rattle.wire_read.proofs.Entries.{goes_on, ends, is_done}
use Rattle.wire_read.proofs.lists.batches_of.Goals as goal

pub returns-in_err-batch : goal.returns-in_err-batch
returns-in_err-batch c =
    let p = err_from_is_err_and c.from_residual-in_err-batch.result c.from_residual-in_err-batch.ensures.1 in
    rw (p.1, p.2) (ends batch_reference_at c.in_err-batch.field-0.0 c.in_ok-count.count c.loop.counter c.loop.batches c.loop.reader (batches_at c.args.reader.now) c.loop-test.true
    c.in_err-batch.ensures.reads c.loop.invariant.so_far)

pub loop-preserved : goal.loop-preserved
loop-preserved c = record {
  limit = c.loop.invariant.limit;
  so_many = rw c.in_ok-push.ensures.ok (simp length-append (omega arith));
  so_far = rw c.in_ok-push.ensures.ok (goes_on batch_reference_at c.in_ok-count.count c.loop.counter c.loop.batches c.loop.reader c.in_ok-batch.batch c.batch_of.new.reader
      (batches_at c.args.reader.now) c.loop-test.true c.in_ok-batch.ensures.reads c.loop.invariant.so_far);
}

pub returns : goal.returns
returns c = is_done batch_reference_at c.in_ok-count.count c.loop.counter c.loop.batches c.loop.reader (batches_at c.args.reader.now) c.loop-test.false c.loop.invariant.so_far
