use Rattle.std.proofs.Common.{◌∙◌, ℕ, List, ap}
use Rattle.wire.specs.Digests.{certificate_digest_of}
use Rattle.spec_model.specs.Words.{Digest}
use Rattle.dag.proofs.dag.Dag.add.Goals as goal

pub add_digested-requires-clause-digested : goal.add_digested-requires-clause-digested
add_digested-requires-clause-digested c =
    let header = c.args.certificate.header in
    let bytes : List ℕ → Digest = λ l. record { 0 = l } in
    ap bytes (c.certificate_digest-digest.ensures ∙ ap (λ (l : List ℕ). certificate_digest_of l header.round header.author.0) c.header_digest.ensures)
