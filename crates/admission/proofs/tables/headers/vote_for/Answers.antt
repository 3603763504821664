use Rattle.std.proofs.Common.{◌≡◌, ℕ, List, ap, ◌∙◌}
use Rattle.wire.specs.Digests.{certificate_digest_of}
use Rattle.spec_model.specs.Slots.{certificate_digest}
use Rattle.spec_model.specs.Words.{Digest, Signature, Vote}
use Rattle.admission.proofs.tables.headers.vote_for.Goals as goal

pub returns : goal.returns
returns g c =
    let body = c.args.header.now.body in
    let sign : Digest → Signature = g.S.Sign.scheme.signature_of c.args.signer.now in
    let vote : Digest → Signature → Vote = λ d s. record { header = d; round = body.round; author = body.author; voter = c.args.own; signature = s } in
    let text : c.certificate_digest-certificate.result ≡ certificate_digest body =
    ap (λ (t : List ℕ). record { 0 = t }) (c.certificate_digest-certificate.ensures ∙ ap (λ (d : Digest). certificate_digest_of d.0 body.round body.author.0) c.requires.digested) in
    ap (vote c.args.digest.now) (c.sign.ensures ∙ ap sign text) ∙ ap (λ (d : Digest). vote d (sign (certificate_digest body))) c.requires.digested
