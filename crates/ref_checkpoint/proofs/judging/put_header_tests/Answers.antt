use Rattle.spec_checkpoint.specs.Faults.{is_header_sound}
use Rattle.spec_model.specs.Nodes.{node_view}
use Rattle.ref_checkpoint.proofs.TestsMore.{test_more}
use Rattle.ref_checkpoint.proofs.judging.put_header_tests.Goals as goal

pub loop-kept-preserved : goal.loop-kept-preserved
loop-kept-preserved g c =
    test_more (is_header_sound (node_view g.S.Sign.scheme c.args.node.now) c.args.checkpoint.now) c.args.headers.now c.loop-kept.kept-index c.kept-item.result c.loop-kept.tests.items
    c.push.new.self.items c.args.tests.now.items c.in_ok-is_header_sound.field-0 c.loop-kept-test.true c.kept-item.is c.in_ok-push.ensures.items c.in_ok-is_header_sound.ensures
    c.loop-kept.invariant
