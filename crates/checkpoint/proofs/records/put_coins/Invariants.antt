use Rattle.std.proofs.Common.{◌≡◌, ◌*◌, ◌++◌, map, take, drop}
use Rattle.std.specs.List.{range_with_len}
use Rattle.spec_checkpoint.specs.Records.{coins_record, COINS_PIECE}
use Rattle.checkpoint.proofs.records.put_coins.Given as goal

-- the pieces so far have been put
abbrev pub invariant-loop-piece : goal.invariant-loop-piece
invariant-loop-piece g l =
    g.S.RecordSink.records l.sink ≡ g.S.RecordSink.records l.initial.sink ++ map coins_record (map (λ piece. take COINS_PIECE (drop (COINS_PIECE * piece) l.coins)) (range_with_len 0 l.piece))
