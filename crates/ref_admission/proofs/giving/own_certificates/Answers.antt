use Rattle.std.proofs.Common.{sym, ◌∙◌}
use Rattle.ref_order.proofs.Items.{passed_more, failed_more}
use Rattle.spec_model.specs.Giving.{is_given}
use Rattle.spec_model.specs.Nodes.{node_view}
use Rattle.wire.specs.declared.output.Output.TheVariants as output
use Rattle.ref_admission.proofs.giving.own_certificates.Goals as goal
use Rattle.ref_admission.proofs.giving.own_certificates.Goals.{then-is_given+in_ok-try_clone+in_ok-push, else-is_given}

pub loop-certificate-preserved : goal.loop-certificate-preserved
loop-certificate-preserved g c =
    let test = is_given (node_view g.S.Sign.scheme c.args.node.now) c.args.history.now in
    let so_far = c.loop-certificate.found in
    let all = c.deref-certificate-items.result.now in
    let this = c.certificate-item.result in
    let place = c.loop-certificate.certificate-index in
    elim c.if-is_given.branch [
      | then-is_given+in_ok-try_clone+in_ok-push w ↦
          rw (w.found-is, w.in_ok-push.ensures.ok, w.in_ok-try_clone.ensures)
          (passed_more test output.Certificate so_far all this place c.loop-certificate-test.true c.certificate-item.is (sym c.is_given.ensures ∙ w.if-is_given.true)
          ∙ c.loop-certificate.invariant)
      | else-is_given w ↦
          rw w.found-is
          (failed_more test output.Certificate so_far all this place c.loop-certificate-test.true c.certificate-item.is (sym c.is_given.ensures ∙ w.if-is_given.false)
          ∙ c.loop-certificate.invariant)
    ]
