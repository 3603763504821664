use Rattle.std.proofs.Common.{arith, []}
use Rattle.journal.proofs.Drafting.{part_more}
use Rattle.journal.proofs.draft.whole_len.Goals as goal

pub overflow_add-len : goal.overflow_add-len
overflow_add-len c = omega (arith, part_more c.args.parts.now c.loop-part.part-index (record { ref_ptr = (0, 0); now = [] }) c.loop-part-test.true)
