use Rattle.std.proofs.Common.{◌≡◌, sym, ◌∙◌, ap, arith}
use Rattle.std.specs.Prelude.{max}
use Rattle.spec_model.specs.Holdings.{is_full}
use Rattle.spec_model.specs.Nodes.{node_view}
use Rattle.spec_model.specs.Slots.{slots_of}
use Rattle.spec_model.specs.Words.{Certificate}
use Rattle.ref_order.proofs.Items.{greatest_more, greatest_same}
use Rattle.ref_order.proofs.certificates.round_by.Goals as goal
use Rattle.ref_order.proofs.certificates.round_by.Goals.{then-is_full, else-is_full}

pub loop-certificate-preserved : goal.loop-certificate-preserved
loop-certificate-preserved g c =
    let full = is_full (node_view g.S.Sign.scheme c.args.node.now) (slots_of c.args.certificates.now) in
    let so_far = c.loop-certificate.greatest in
    let all = c.args.certificates.now in
    let this = c.certificate-item.result in
    let place = c.loop-certificate.certificate-index in
    let is = sym c.is_full.ensures in
    let number = sym c.number-round.ensures.value in
    elim c.if-is_full.branch [
      | then-is_full w ↦
          let most : w.max-greatest.result ≡ max so_far this.header.round = grind (arith, w.max-greatest.ensures, c.number-round.ensures.value) in
          rw (w.greatest-is, most)
          (record {
            all = greatest_more full (λ (d : Certificate). d.header.round) so_far all this place c.loop-certificate-test.true c.certificate-item.is
                (ap full number ∙ is ∙ w.if-is_full.true) ∙ c.loop-certificate.invariant.all;
            within = grind (arith, c.loop-certificate.invariant.within, c.number-round.ensures.limit, c.number-round.ensures.value);
          })
      | else-is_full w ↦
          rw w.greatest-is
          (record {
            all = greatest_same full (λ (d : Certificate). d.header.round) so_far all this place c.loop-certificate-test.true c.certificate-item.is
                (ap full number ∙ is ∙ w.if-is_full.false) ∙ c.loop-certificate.invariant.all;
            within = c.loop-certificate.invariant.within;
          })
    ]
