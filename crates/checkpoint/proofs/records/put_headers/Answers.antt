use Rattle.std.proofs.Common.{List, ℕ, [], ◌∷◌, ◌++◌, sym, ap, ◌∙◌, subst}
use Rattle.spec_checkpoint.specs.Records.{header_record}
use Rattle.checkpoint.specs.Kept.{header_of}
use Rattle.checkpoint.proofs.RowsMore.{row_fits, row_more}
use Rattle.checkpoint.proofs.records.put_headers.Goals as goal

pub put_row-requires : goal.put_row-requires
put_row-requires g c =
    subst g.S.RecordSink.fits (sym (c.as_slice.ensures.value ∙ c.in_ok-row.ensures))
    (row_fits g.S.RecordSink.fits header_record header_of c.args.headers.now c.loop-voted.voted-index c.voted-item.result c.loop-voted-test.true c.voted-item.is c.requires)

pub loop-voted-preserved : goal.loop-voted-preserved
loop-voted-preserved g c =
    let records = g.S.RecordSink.records in
    let before = records c.loop-voted.sink in
    row_more header_record header_of c.args.headers.now c.loop-voted.voted-index c.voted-item.result before (records c.put_row.new.sink) (records c.args.sink.now)
    c.loop-voted-test.true c.voted-item.is (c.in_ok-put_row.ensures ∙ ap (λ (text : List ℕ). before ++ text ∷ []) (c.as_slice.ensures.value ∙ c.in_ok-row.ensures)) c.loop-voted.invariant
