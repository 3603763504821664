use Rattle.std.proofs.Common.{◌≡◌, ◌∙◌, arith}
use Rattle.std.specs.Prelude.{max}
use Rattle.spec_model.specs.Words.{Certificate}
use Rattle.ref_order.proofs.Items.{highest_more}
use Rattle.ref_order.proofs.certificates.highest_of.Goals as goal

pub loop-certificate-preserved : goal.loop-certificate-preserved
loop-certificate-preserved c =
    let so_far = c.loop-certificate.highest in
    let this = c.certificate-item.result in
    let most : c.max-highest.result ≡ max so_far this.header.round = grind (arith, c.max-highest.ensures, c.number.ensures.value) in
    rw most
    (highest_more (λ (d : Certificate). d.header.round) so_far c.args.certificates.now this c.loop-certificate.certificate-index c.loop-certificate-test.true c.certificate-item.is
    ∙ c.loop-certificate.invariant)
