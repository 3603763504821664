use Rattle.spec_model.specs.Nodes.{node_view}
use Rattle.ref_checkpoint.proofs.TestsMore.{batch_test_more, batch_tests_done}
use Rattle.ref_checkpoint.proofs.judging.put_batch_tests.Goals as goal

pub loop-place-preserved : goal.loop-place-preserved
loop-place-preserved g c =
    batch_test_more (node_view g.S.Sign.scheme c.args.node.now) c.args.batches.now c.loop-place.place c.index-batches-place.result c.loop-place.tests.items c.push.new.self.items _
    c.in_ok-is_batch_sound.field-0 c.loop-place-test.true c.index-batches-place.is c.in_ok-push.ensures.items c.in_ok-is_batch_sound.ensures c.loop-place.invariant

pub returns : goal.returns
returns g c =
    batch_tests_done (node_view g.S.Sign.scheme c.args.node.now) c.args.batches.now c.loop-place.place c.loop-place.tests.items _ c.loop-place-test.false c.loop-place.invariant
