use Rattle.std.proofs.Common.{sym, ◌∙◌}
use Rattle.ref_order.proofs.Items.{folded_more, folded_same}
use Rattle.spec_model.proofs.Placing.{placed-rises}
use Rattle.spec_model.specs.Nodes.{node_view}
use Rattle.wire.specs.References.{placed}
use Rattle.spec_model.specs.Proposing.{to_name}
use Rattle.ref_admission.proofs.proposing.nameable.Goals as goal
use Rattle.ref_admission.proofs.proposing.nameable.Goals.{in-Some+in_ok-found, in_default}

pub loop-batch-preserved : goal.loop-batch-preserved
loop-batch-preserved g c =
    let node = node_view g.S.Sign.scheme c.args.node.now in
    let make = to_name node (g.H.Held.state c.args.held.now) in
    let so_far = c.loop-batch.found.items in
    let all = c.deref-batch-items.result.now in
    let this = c.batch-item.result in
    let place = c.loop-batch.batch-index in
    elim c.match-to_name.branch [
      | in-Some+in_ok-found w ↦
          let named = w.in-Some.named in
          rw (w.found-is, w.in_ok-found.ensures, w.deref.ensures.value)
          (record {
            all = folded_more placed make so_far all this named place c.loop-batch-test.true c.batch-item.is (sym c.to_name.ensures ∙ w.in-Some.is) ∙ c.loop-batch.invariant.all;
            order = placed-rises so_far named c.loop-batch.invariant.order;
          })
      | in_default w ↦
          rw w.found-is
          (record {
            all = folded_same placed make so_far all this place c.loop-batch-test.true c.batch-item.is (sym c.to_name.ensures ∙ w.in_default.is) ∙ c.loop-batch.invariant.all;
            order = c.loop-batch.invariant.order;
          })
    ]
