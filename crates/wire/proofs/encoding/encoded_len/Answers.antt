use Rattle.std.proofs.Common.{length, ap, arith, subst}
use Rattle.wire.specs.Encoding.{encoding}
use Rattle.wire.specs.Grammar.{IsMessage}
use Rattle.wire.proofs.Lengths.{header_encoded, certificate_encoded}
use Rattle.wire.proofs.encoding.encoded_len.Goals as goal

pub returns-in-Header-clause-len : goal.returns-in-Header-clause-len
returns-in-Header-clause-len c =
    let is = subst IsMessage c.in-Header.is c.limits_hold.ensures in
    omega (arith, c.header_length.ensures.len, header_encoded c.in-Header.header is, ap (λ m. length (encoding m)) c.in-Header.is)

pub returns-in-Certificate-clause-len : goal.returns-in-Certificate-clause-len
returns-in-Certificate-clause-len c =
    let is = subst IsMessage c.in-Certificate.is c.limits_hold.ensures in
    omega (arith, c.certificate_length.ensures.len, certificate_encoded c.in-Certificate.certificate is, ap (λ m. length (encoding m)) c.in-Certificate.is)

pub returns-in-Batch-clause-len : goal.returns-in-Batch-clause-len
returns-in-Batch-clause-len c = omega (arith, c.batch_length.ensures.encoded, ap (λ m. length (encoding m)) c.in-Batch.is)
