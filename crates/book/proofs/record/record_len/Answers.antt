use Rattle.std.proofs.Common.{ap, length, arith}
use Rattle.wire.specs.Encoding.{encoding}
use Rattle.book.proofs.record.record_len.Goals as goal

pub returns-clause-len : goal.returns-clause-len
returns-clause-len c = omega (arith, c.encoded_len.ensures.len, ap (λ m. length (encoding m)) c.message.ensures)
