use Rattle.std.proofs.Common.{◌≡◌, List, ℕ, ap, ◌∙◌}
use Rattle.wire.specs.Digests.{certificate_digest_of}
use Rattle.spec_model.specs.Slots.{certificate_digest}
use Rattle.spec_model.specs.Words.{Certificate, Digest}
use Rattle.checkpoint.proofs.parts.certificates.digested.Goals as goal

pub returns : goal.returns
returns c =
    let certificate = c.args.certificate.now in
    let header = certificate.header in
    let digest : c.certificate_digest-digest.result ≡ certificate_digest header =
    ap (λ (bytes : List ℕ). let d : Digest = record { 0 = bytes } in d)
    (c.certificate_digest-digest.ensures ∙ ap (λ (bytes : List ℕ). certificate_digest_of bytes header.round header.author.0) c.header_digest.ensures) in
    ap (λ (x : Certificate). (x, c.certificate_digest-digest.result)) c.in_ok-try_clone.ensures ∙ ap (λ (d : Digest). (certificate, d)) digest
