use Rattle.std.proofs.Common.{◌≡◌, ◌-◌}
use Rattle.std.specs.Int.{w32, w64}
use Rattle.spec_checkpoint.specs.Reading.{counted_at}
use Rattle.wire.specs.Reading.{more_at, number_at}
use Rattle.checkpoint.specs.declared.records.pieces.TheConstants.{COINS_PIECE}
use Rattle.checkpoint.proofs.reading.pieces.counted_coins_of.Given as goal

-- those that are still read, after those so far, are all
abbrev pub invariant-loop : goal.invariant-loop
invariant-loop l = more_at (λ before. number_at w64) (l.count - l.counter) l.coins.items l.reader ≡ counted_at w32 COINS_PIECE (λ before. number_at w64) l.fn.reader
