use Rattle.std.proofs.Common.{arith, ap, length}
use Rattle.test_disk.proofs.Adding.{len_more}
use Rattle.test_disk.proofs.store.encoding.put_body.Goals as goal

pub overflow_cast-record : goal.overflow_cast-record
overflow_cast-record c = omega (arith, len_more c.args.records.now c.loop-record.record-index c.record-item.result c.loop-record-test.true c.record-item.is, ap length c.as_slice-record.ensures)
