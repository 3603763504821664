use Rattle.std.proofs.Common.{◌+◌, ◌/◌, length, ◌∙◌}
use Rattle.header.proofs.Ranges.{mapped_more}
use Rattle.header.specs.Answers.{piece_at}
use Rattle.header.proofs.admission.Outputs.push_order.Goals as goal

pub loop-piece-preserved : goal.loop-piece-preserved
loop-piece-preserved c =
    rw (c.in_ok-push.ensures.ok, c.in_ok-digests.ensures, c.first_of-part.ensures.value, c.part_from.ensures)
    (mapped_more (piece_at c.args.start c.args.digests.now) c.loop-piece.self c.loop-piece.piece ((length c.args.digests.now + 15999) / 16000) c.loop-piece-test.true
    ∙ c.loop-piece.invariant)
