use Rattle.spec_checkpoint.specs.Records.{batch_record}
use Rattle.checkpoint.specs.Kept.{batch_of}
use Rattle.checkpoint.proofs.RowsMore.{row_fits, row_more}
use Rattle.checkpoint.proofs.records.put_batches.Goals as goal

pub put_batch-requires : goal.put_batch-requires
put_batch-requires g c = row_fits g.S.RecordSink.fits batch_record batch_of c.args.batches.now c.loop-entry.entry-index c.entry-item.result c.loop-entry-test.true c.entry-item.is c.requires

pub loop-entry-preserved : goal.loop-entry-preserved
loop-entry-preserved g c =
    let records = g.S.RecordSink.records in
    row_more batch_record batch_of c.args.batches.now c.loop-entry.entry-index c.entry-item.result (records c.loop-entry.sink) (records c.put_batch.new.sink) (records c.args.sink.now)
    c.loop-entry-test.true c.entry-item.is c.in_ok-put_batch.ensures c.loop-entry.invariant
