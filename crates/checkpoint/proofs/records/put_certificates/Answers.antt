use Rattle.std.proofs.Common.{List, ℕ, [], ◌∷◌, ◌++◌, sym, ap, ◌∙◌, subst}
use Rattle.spec_checkpoint.specs.Records.{certificate_record}
use Rattle.checkpoint.specs.Kept.{certificate_of}
use Rattle.checkpoint.proofs.RowsMore.{row_fits, row_more}
use Rattle.checkpoint.proofs.records.put_certificates.Goals as goal

pub put_row-requires : goal.put_row-requires
put_row-requires g c =
    subst g.S.RecordSink.fits (sym (c.as_slice.ensures.value ∙ c.in_ok-row.ensures))
    (row_fits g.S.RecordSink.fits certificate_record certificate_of c.args.certificates.now c.loop-entry.entry-index c.entry-item.result c.loop-entry-test.true c.entry-item.is c.requires)

pub loop-entry-preserved : goal.loop-entry-preserved
loop-entry-preserved g c =
    let records = g.S.RecordSink.records in
    let before = records c.loop-entry.sink in
    row_more certificate_record certificate_of c.args.certificates.now c.loop-entry.entry-index c.entry-item.result before (records c.put_row.new.sink) (records c.args.sink.now)
    c.loop-entry-test.true c.entry-item.is (c.in_ok-put_row.ensures ∙ ap (λ (text : List ℕ). before ++ text ∷ []) (c.as_slice.ensures.value ∙ c.in_ok-row.ensures)) c.loop-entry.invariant
