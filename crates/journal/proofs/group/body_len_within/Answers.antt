use Rattle.std.proofs.Common.{arith}
use Rattle.journal.proofs.Parts.{len_more}
use Rattle.journal.proofs.group.body_len_within.Goals as goal
use Rattle.journal.proofs.group.body_len_within.Goals.{then-room-lt-LENGTH_BYTES-via-then-room-lt-LENGTH_BYTES, then-room-lt-LENGTH_BYTES-via-else-room-lt-LENGTH_BYTES+then-len-room}

pub returns-then-room-lt-LENGTH_BYTES : goal.returns-then-room-lt-LENGTH_BYTES
returns-then-room-lt-LENGTH_BYTES c fits =
    let more = len_more c.args.records.now c.loop-record.record-index c.record-item.result c.loop-record-test.true c.record-item.is in
    elim c.then-room-lt-LENGTH_BYTES.branch [
      | then-room-lt-LENGTH_BYTES-via-then-room-lt-LENGTH_BYTES w ↦ omega (arith, more)
      | then-room-lt-LENGTH_BYTES-via-else-room-lt-LENGTH_BYTES+then-len-room w ↦ omega (arith, more, w.len.ensures)
    ]
