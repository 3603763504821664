use Rattle.std.proofs.Common.{◌∙◌}
use Rattle.ref_order.proofs.Items.{joined_more}
use Rattle.spec_model.specs.Admitting.{header_outputs}
use Rattle.spec_model.specs.Nodes.{node_view}
use Rattle.ref_admission.proofs.giving.of_headers.Goals as goal

pub loop-header-preserved : goal.loop-header-preserved
loop-header-preserved g c =
    rw (c.in_ok-append.ensures.ok, c.in_ok-header_outputs.ensures)
    (joined_more (header_outputs (node_view g.S.Sign.scheme c.args.node.now)) c.loop-header.found c.deref-header-items.result.now
    c.header-item.result c.loop-header.header-index c.loop-header-test.true c.header-item.is
    ∙ c.loop-header.invariant)
