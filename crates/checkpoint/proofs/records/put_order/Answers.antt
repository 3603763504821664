use Rattle.std.proofs.Common.{ℕ, List, ◌*◌, [], ◌∷◌, ◌++◌, take, drop, sym, ap, ◌∙◌, subst}
use Rattle.spec_checkpoint.specs.Records.{ORDER_PIECE, order_record}
use Rattle.spec_model.specs.Words.{Digest}
use Rattle.checkpoint.proofs.RowsMore.{piece_fits, piece_more}
use Rattle.checkpoint.proofs.records.put_order.Goals as goal

pub put_row-requires : goal.put_row-requires
put_row-requires g c =
    let piece_at : ℕ → List Digest = λ piece. take ORDER_PIECE (drop (ORDER_PIECE * piece) c.args.order.now) in
    subst g.S.RecordSink.fits (sym (c.as_slice.ensures.value ∙ c.in_ok-row.ensures ∙ ap order_record c.piece_at.ensures.value))
    (piece_fits g.S.RecordSink.fits order_record piece_at c.loop-piece.piece _ c.loop-piece-test.true c.requires)

pub loop-piece-preserved : goal.loop-piece-preserved
loop-piece-preserved g c =
    let piece_at : ℕ → List Digest = λ piece. take ORDER_PIECE (drop (ORDER_PIECE * piece) c.args.order.now) in
    let records = g.S.RecordSink.records in
    let before = records c.loop-piece.sink in
    piece_more order_record piece_at c.loop-piece.piece before (records c.put_row.new.sink) (records c.args.sink.now)
    (c.in_ok-put_row.ensures ∙ ap (λ (text : List ℕ). before ++ text ∷ []) (c.as_slice.ensures.value ∙ c.in_ok-row.ensures ∙ ap order_record c.piece_at.ensures.value))
    c.loop-piece.invariant
