use Rattle.std.proofs.Common.{arith}
use Rattle.journal.proofs.Parts.{len_more}
use Rattle.journal.proofs.group.put_body.Goals as goal

pub overflow_cast-len : goal.overflow_cast-len
overflow_cast-len c = omega (arith, len_more c.args.records.now c.loop-record.record-index c.record-item.result c.loop-record-test.true c.record-item.is, c.len.ensures)
