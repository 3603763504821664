use Rattle.std.proofs.Common.{◌≡◌, ◌-◌}
use Rattle.std.specs.Int.{w32}
use Rattle.spec_checkpoint.specs.Reading.{counted_at}
use Rattle.wire.specs.Reading.{more_at, digest_at}
use Rattle.checkpoint.specs.declared.records.pieces.TheConstants.{ORDER_PIECE}
use Rattle.checkpoint.proofs.reading.pieces.counted_digests_of.Given as goal

-- those that are still read, after those so far, are all
abbrev pub invariant-loop : goal.invariant-loop
invariant-loop l = more_at (λ before. digest_at) (l.count - l.counter) l.digests.items l.reader ≡ counted_at w32 ORDER_PIECE (λ before. digest_at) l.fn.reader
