use Rattle.std.proofs.lemmas.Result.{err_from_is_err_and}
use Rattle.std.specs.Int.{w32}
use Rattle.spec_checkpoint.specs.Reading.{counted_at}
use Rattle.wire.specs.Reading.{digest_at}
use Rattle.wire_read.proofs.Entries.{goes_on, ends, is_done}
use Rattle.checkpoint.specs.declared.records.pieces.TheConstants.{ORDER_PIECE}
use Rattle.checkpoint.proofs.reading.pieces.counted_digests_of.Goals as goal

pub returns-in_err-digest : goal.returns-in_err-digest
returns-in_err-digest c =
    let p = err_from_is_err_and c.from_residual-in_err-digest.result c.from_residual-in_err-digest.ensures.1 in
    rw (p.1, p.2) (ends (λ before. digest_at) c.in_err-digest.field-0.0 c.in_ok-count.count c.loop.counter c.loop.digests.items c.loop.reader
    (counted_at w32 ORDER_PIECE (λ before. digest_at) c.args.reader.now)
    c.loop-test.true c.in_err-digest.ensures c.loop.invariant)

pub loop-preserved : goal.loop-preserved
loop-preserved c =
    rw c.in_ok-push.ensures.items (goes_on (λ before. digest_at) c.in_ok-count.count c.loop.counter c.loop.digests.items c.loop.reader c.in_ok-digest.digest c.digest.new.self
    (counted_at w32 ORDER_PIECE (λ before. digest_at) c.args.reader.now) c.loop-test.true c.in_ok-digest.ensures c.loop.invariant)

pub returns : goal.returns
returns c = is_done (λ before. digest_at) c.in_ok-count.count c.loop.counter c.loop.digests.items c.loop.reader
    (counted_at w32 ORDER_PIECE (λ before. digest_at) c.args.reader.now) c.loop-test.false c.loop.invariant
