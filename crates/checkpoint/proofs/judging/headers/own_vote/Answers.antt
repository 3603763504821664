use Rattle.std.proofs.Common.{◌≡◌, ap, ◌∙◌, List, ℕ}
use Rattle.spec_model.specs.Nodes.{node_view}
use Rattle.spec_model.specs.Slots.{header_digest, certificate_digest}
use Rattle.spec_model.specs.Words.{Digest, Signature, Vote}
use Rattle.wire.specs.Digests.{certificate_digest_of}
use Rattle.checkpoint.proofs.judging.headers.own_vote.Goals as goal

pub returns : goal.returns
returns g c =
    let node = node_view g.S.Sign.scheme c.args.node.now in
    let header = c.args.header.now in
    let made : List ℕ → Digest = λ bytes. record { 0 = bytes } in
    let digest : c.header_digest-digest.result ≡ header_digest header = ap made c.header_digest-digest.ensures in
    let certificate : c.certificate_digest-certificate.result ≡ certificate_digest header =
    ap made (c.certificate_digest-certificate.ensures ∙ ap (λ (bytes : List ℕ). certificate_digest_of bytes header.round header.author.0) c.header_digest-digest.ensures) in
    let signature : c.sign.result ≡ node.sign (certificate_digest header) = c.sign.ensures ∙ ap node.sign certificate in
    let vote : Digest → Signature → Vote = λ d s. record { header = d; round = header.round; author = header.author; voter = node.own; signature = s } in
    ap (λ (d : Digest). vote d c.sign.result) digest ∙ ap (vote (header_digest header)) signature
