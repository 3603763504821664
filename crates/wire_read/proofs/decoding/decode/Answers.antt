use Rattle.std.proofs.Common.{ap, subst, ◌∙◌, arith}
use Rattle.wire.specs.Reading.{Gives, message_of}
use Rattle.wire_read.proofs.Messages.{is_found, is_read}
use Rattle.wire_read.proofs.decoding.decode.Goals as goal

pub returns-clause-found : goal.returns-clause-found
returns-clause-found c = is_found c.args.bytes.now c.message_in.result (λ i. omega (arith, c.type_inv.bytes i)) c.message_in.ensures

pub returns-clause-only : goal.returns-clause-only
returns-clause-only c = λ m spells. subst (λ r. Gives (λ found. found) c.message_in.result r) (ap message_of spells.1 ∙ is_read m spells.0) c.message_in.ensures

pub returns-clause-fault : goal.returns-clause-fault
returns-clause-fault c = c.message_in.ensures
