use Rattle.std.proofs.lemmas.Result.{err_from_is_err_and}
use Rattle.std.specs.Int.{w32, w64}
use Rattle.spec_checkpoint.specs.Reading.{counted_at}
use Rattle.wire.specs.Reading.{number_at}
use Rattle.wire_read.proofs.Entries.{goes_on, ends, is_done}
use Rattle.checkpoint.specs.declared.records.pieces.TheConstants.{COINS_PIECE}
use Rattle.checkpoint.proofs.reading.pieces.counted_coins_of.Goals as goal

pub returns-in_err-coin : goal.returns-in_err-coin
returns-in_err-coin c =
    let p = err_from_is_err_and c.from_residual-in_err-coin.result c.from_residual-in_err-coin.ensures.1 in
    rw (p.1, p.2) (ends (λ before. number_at w64) c.in_err-coin.field-0.0 c.in_ok-count.count c.loop.counter c.loop.coins.items c.loop.reader
    (counted_at w32 COINS_PIECE (λ before. number_at w64) c.args.reader.now)
    c.loop-test.true c.in_err-coin.ensures c.loop.invariant)

pub loop-preserved : goal.loop-preserved
loop-preserved c =
    rw c.in_ok-push.ensures.items (goes_on (λ before. number_at w64) c.in_ok-count.count c.loop.counter c.loop.coins.items c.loop.reader c.in_ok-coin.coin c.u64.new.self
    (counted_at w32 COINS_PIECE (λ before. number_at w64) c.args.reader.now) c.loop-test.true c.in_ok-coin.ensures c.loop.invariant)

pub returns : goal.returns
returns c = is_done (λ before. number_at w64) c.in_ok-count.count c.loop.counter c.loop.coins.items c.loop.reader
    (counted_at w32 COINS_PIECE (λ before. number_at w64) c.args.reader.now) c.loop-test.false c.loop.invariant
