use Rattle.std.proofs.Common.{ℕ, ◌*◌, take, drop}
use Rattle.spec_checkpoint.specs.Records.{ORDER_PIECE}
use Rattle.ref_checkpoint.proofs.TestsMore.{piece_test_more}
use Rattle.ref_checkpoint.proofs.judging.put_order_tests.Goals as goal

pub loop-preserved : goal.loop-preserved
loop-preserved c =
    piece_test_more (λ (piece : ℕ). take ORDER_PIECE (drop (ORDER_PIECE * piece) c.args.digests.now)) c.loop.counter c.loop.tests.items c.push.new.self.items
    c.args.tests.now.items c.in_ok-push.ensures.items c.loop.invariant
