use Rattle.std.proofs.Common.{◌≡◌, ◌*◌, ◌++◌, map, take, drop}
use Rattle.std.specs.List.{range_with_len}
use Rattle.spec_checkpoint.specs.Records.{order_record, ORDER_PIECE}
use Rattle.checkpoint.proofs.records.put_order.Given as goal

-- the pieces so far have been put
abbrev pub invariant-loop-piece : goal.invariant-loop-piece
invariant-loop-piece g l =
    g.S.RecordSink.records l.sink ≡ g.S.RecordSink.records l.initial.sink ++ map order_record (map (λ piece. take ORDER_PIECE (drop (ORDER_PIECE * piece) l.order)) (range_with_len 0 l.piece))
