use Rattle.std.proofs.Common.{ℕ, ◌*◌, take, drop, ap, ◌∙◌}
use Rattle.spec_checkpoint.specs.Records.{ORDER_PIECE, order_record}
use Rattle.ref_checkpoint.specs.Lists.{contents}
use Rattle.ref_checkpoint.proofs.RowsMore.{piece_more}
use Rattle.ref_checkpoint.proofs.writing.put_order.Goals as goal

pub loop-piece-preserved : goal.loop-piece-preserved
loop-piece-preserved c =
    piece_more order_record (λ (piece : ℕ). take ORDER_PIECE (drop (ORDER_PIECE * piece) c.args.digests.now)) c.loop-piece.piece c.loop-piece.rows.items
    c.push.new.self.items c.in_ok-order_record.field-0
    (contents c.args.rows.now.items) c.in_ok-push.ensures.items (c.in_ok-order_record.ensures ∙ ap order_record c.piece_at.ensures.value) c.loop-piece.invariant
