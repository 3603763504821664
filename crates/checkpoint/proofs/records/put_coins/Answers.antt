use Rattle.std.proofs.Common.{ℕ, List, ◌+◌, ◌-◌, ◌*◌, ◌<◌, [], ◌∷◌, ◌++◌, take, drop, sym, ap, ◌∙◌, subst}
use Rattle.std.specs.Prelude.{◌/◌}
use Rattle.spec_checkpoint.specs.Records.{COINS_PIECE, coins_record}
use Rattle.checkpoint.proofs.RowsMore.{piece_fits, piece_more}
use Rattle.checkpoint.proofs.records.put_coins.Goals as goal

pub put_row-requires : goal.put_row-requires
put_row-requires g c =
    let piece_at : ℕ → List ℕ = λ piece. take COINS_PIECE (drop (COINS_PIECE * piece) c.args.coins.now) in
    subst g.S.RecordSink.fits (sym (c.as_slice.ensures.value ∙ c.in_ok-row.ensures))
    (piece_fits g.S.RecordSink.fits coins_record piece_at c.loop-piece.piece _
    (subst (λ (n : ℕ). c.loop-piece.piece < (n + (COINS_PIECE - 1)) / COINS_PIECE) c.count.ensures.value c.loop-piece-test.true) c.requires)

pub loop-piece-preserved : goal.loop-piece-preserved
loop-piece-preserved g c =
    let piece_at : ℕ → List ℕ = λ piece. take COINS_PIECE (drop (COINS_PIECE * piece) c.args.coins.now) in
    let records = g.S.RecordSink.records in
    let before = records c.loop-piece.sink in
    piece_more coins_record piece_at c.loop-piece.piece before (records c.put_row.new.sink) (records c.args.sink.now)
    (c.in_ok-put_row.ensures ∙ ap (λ (text : List ℕ). before ++ text ∷ []) (c.as_slice.ensures.value ∙ c.in_ok-row.ensures)) c.loop-piece.invariant
