use Rattle.std.proofs.Common.{arith, length, take, ◌++◌, ap, ◌∙◌}
use Rattle.std.specs.Int.{w16, to_be_bytes}
use Rattle.std.specs.List.{flat_map}
use Rattle.wire.specs.Encoding.{batch_reference_bytes}
use Rattle.wire.proofs.Pieces.{one_more, all_put}
use Rattle.wire.proofs.encoding.write_batches.Goals as goal

pub write_batch_reference-next-requires : goal.write_batch_reference-next-requires
write_batch_reference-next-requires c =
    let until = c.loop-batch.invariant in
    omega (arith, c.requires, c.loop-batch-test.true, until.place, until.len, ap length c.as_slice-list.ensures.value)

pub loop-batch-preserved : goal.loop-batch-preserved
loop-batch-preserved c =
    let until = c.loop-batch.invariant in
    let put = c.write_batch_reference-next.ensures in
    record {
      bytes = one_more batch_reference_bytes (take c.args.place c.args.area.now) (to_be_bytes w16 (length c.as_slice-list.result.now)) (take c.loop-batch.next c.loop-batch.area)
          (take c.write_batch_reference-next.result c.write_batch_reference-next.new.area) c.as_slice-list.result.now c.loop-batch.batch-index _ c.loop-batch-test.true until.bytes put.bytes;
      place = omega (arith, until.place, put.next);
      len = omega (arith, until.len, put.len);
    }

pub returns-clause-bytes : goal.returns-clause-bytes
returns-clause-bytes c =
    all_put batch_reference_bytes (take c.args.place c.args.area.now) (to_be_bytes w16 (length c.as_slice-list.result.now)) (take c.loop-batch.next c.loop-batch.area) c.as_slice-list.result.now
    c.loop-batch.batch-index c.loop-batch-test.false c.loop-batch.invariant.bytes
    ∙ ap (λ l. take c.args.place c.args.area.now ++ (to_be_bytes w16 (length l) ++ flat_map batch_reference_bytes l)) c.as_slice-list.ensures.value
