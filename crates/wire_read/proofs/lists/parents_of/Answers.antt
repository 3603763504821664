use Rattle.std.proofs.Common.{arith, length-append}
use Rattle.std.proofs.lemmas.Result.{err_from_is_err_and}
use Rattle.wire.specs.Reading.{parent_reference_at, parents_at}
use Rattle.wire_read.proofs.Entries.{goes_on, ends, is_done}
use Rattle.wire_read.proofs.lists.parents_of.Goals as goal

pub returns-in_err-parent : goal.returns-in_err-parent
returns-in_err-parent c =
    let p = err_from_is_err_and c.from_residual-in_err-parent.result c.from_residual-in_err-parent.ensures.1 in
    rw (p.1, p.2) (ends parent_reference_at c.in_err-parent.field-0.0 c.in_ok-count.count c.loop.counter c.loop.parents c.loop.reader (parents_at c.args.reader.now) c.loop-test.true
    c.in_err-parent.ensures.reads c.loop.invariant.so_far)

pub loop-preserved : goal.loop-preserved
loop-preserved c = record {
  limit = c.loop.invariant.limit;
  so_many = rw c.in_ok-push.ensures.ok (simp length-append (omega arith));
  so_far = rw c.in_ok-push.ensures.ok (goes_on parent_reference_at c.in_ok-count.count c.loop.counter c.loop.parents c.loop.reader c.in_ok-parent.parent c.parent_of.new.reader
      (parents_at c.args.reader.now) c.loop-test.true c.in_ok-parent.ensures.reads c.loop.invariant.so_far);
}

pub returns : goal.returns
returns c = is_done parent_reference_at c.in_ok-count.count c.loop.counter c.loop.parents c.loop.reader (parents_at c.args.reader.now) c.loop-test.false c.loop.invariant.so_far
