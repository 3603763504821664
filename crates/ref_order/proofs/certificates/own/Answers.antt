use Rattle.std.proofs.Common.{sym, ◌∙◌}
use Rattle.spec_model.specs.Holdings.{completed}
use Rattle.spec_model.specs.Nodes.{node_view}
use Rattle.ref_order.proofs.Items.{made_more, unmade_more}
use Rattle.ref_order.proofs.certificates.own.Goals as goal
use Rattle.ref_order.proofs.certificates.own.Goals.{in-Some+in_ok-push, in_default}

pub loop-header-preserved : goal.loop-header-preserved
loop-header-preserved g c =
    let make = completed (node_view g.S.Sign.scheme c.args.node.now) c.args.history.now in
    let so_far = c.loop-header.found.items in
    let all = c.deref-header-items.result.now in
    let this = c.header-item.result in
    let place = c.loop-header.header-index in
    elim c.match-branch-3.branch [
      | in-Some+in_ok-push w ↦
          rw (w.found-is, w.in_ok-push.ensures.items)
          (made_more make so_far all this w.in-Some.certificate place c.loop-header-test.true c.header-item.is (sym c.in_ok-certificate.ensures ∙ w.in-Some.is)
          ∙ c.loop-header.invariant)
      | in_default w ↦
          rw w.found-is
          (unmade_more make so_far all this place c.loop-header-test.true c.header-item.is (sym c.in_ok-certificate.ensures ∙ w.in_default.is)
          ∙ c.loop-header.invariant)
    ]
