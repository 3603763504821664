use Rattle.std.proofs.Common.{ap, ◌∙◌, List, ℕ}
use Rattle.spec_model.specs.Words.{Digest}
use Rattle.wire.specs.Digests.{certificate_digest_of}
use Rattle.checkpoint.proofs.judging.certificates.digest_of.Goals as goal

pub returns : goal.returns
returns c =
    let made : List ℕ → Digest = λ bytes. record { 0 = bytes } in
    ap made (c.certificate_digest.ensures ∙ ap (λ (bytes : List ℕ). certificate_digest_of bytes c.args.header.now.round c.args.header.now.author.0) c.header_digest.ensures)
