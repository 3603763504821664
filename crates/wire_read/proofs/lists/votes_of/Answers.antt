use Rattle.std.proofs.Common.{arith, length-append}
use Rattle.std.proofs.lemmas.Result.{err_from_is_err_and}
use Rattle.wire.specs.Reading.{vote_entry_at, votes_at}
use Rattle.wire_read.proofs.Entries.{goes_on, ends, is_done}
use Rattle.wire_read.proofs.lists.votes_of.Goals as goal

pub returns-in_err-vote : goal.returns-in_err-vote
returns-in_err-vote c =
    let p = err_from_is_err_and c.from_residual-in_err-vote.result c.from_residual-in_err-vote.ensures.1 in
    rw (p.1, p.2) (ends vote_entry_at c.in_err-vote.field-0.0 c.in_ok-count.count c.loop.counter c.loop.votes c.loop.reader (votes_at c.args.reader.now) c.loop-test.true
    c.in_err-vote.ensures.reads c.loop.invariant.so_far)

pub loop-preserved : goal.loop-preserved
loop-preserved c = record {
  limit = c.loop.invariant.limit;
  so_many = rw c.in_ok-push.ensures.ok (simp length-append (omega arith));
  so_far = rw c.in_ok-push.ensures.ok (goes_on vote_entry_at c.in_ok-count.count c.loop.counter c.loop.votes c.loop.reader c.in_ok-vote.vote c.vote_of.new.reader (votes_at c.args.reader.now)
      c.loop-test.true c.in_ok-vote.ensures.reads c.loop.invariant.so_far);
}

pub returns : goal.returns
returns c = is_done vote_entry_at c.in_ok-count.count c.loop.counter c.loop.votes c.loop.reader (votes_at c.args.reader.now) c.loop-test.false c.loop.invariant.so_far
