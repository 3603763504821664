use Rattle.std.proofs.Common.{ap, ◌∙◌}
use Rattle.wire.specs.Digests.{certificate_digest_of}
use Rattle.wire.specs.declared.keys.Digest.{Digest}
use Rattle.ref_order.proofs.slots.digest_of.Goals as goal

pub returns : goal.returns
returns c =
    let bytes = c.certificate_digest.ensures ∙ ap (λ h. certificate_digest_of h c.args.header.now.round c.args.header.now.author.0) c.header_digest.ensures in
    ap (λ b. let d : Digest = record { 0 = b } in d) bytes
