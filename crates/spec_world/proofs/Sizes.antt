-- The record of an event that a node takes fits a group.
use Rattle.std.proofs.Common.{◌≡◌, ◌≤◌, [], ◌∷◌, ◌++◌, length, map, ap, arith, length-append, append_assoc}
use Rattle.std.specs.Int.{w16, w64, to_be_bytes}
use Rattle.journal.specs.Format.{FitsGroup}
use Rattle.spec_records.specs.Records.{record_of}
use Rattle.wire.proofs.Lengths.{header_encoded, certificate_encoded}
use Rattle.wire.proofs.Transactions.{body_has}
use Rattle.wire.specs.Events.{Event}
use Rattle.wire.specs.Grammar.{IsMessage}
use Rattle.wire.specs.Encoding.{vote_bytes, encoding}
use Rattle.wire.specs.declared.message.Message.{Message}
use Rattle.wire.specs.declared.message.Message.TheVariants as message

-- a message within its limits is no longer than a batch may be
message_short : (m : Message) → IsMessage m → length (encoding m) ≤ 600000
message_short (message.Batch b) is = omega (arith, body_has b, is.short)
message_short (message.BatchAck a) is = omega (arith, length-append (to_be_bytes w16 a.author.0) a.batch.0, is.batch.count_is)
message_short (message.Header h) is = omega (arith, header_encoded h is, is.body.batches.few, is.body.parents.few)
message_short (message.Vote v) is =
    let rest = to_be_bytes w64 v.round ++ (to_be_bytes w16 v.author.0 ++ (to_be_bytes w16 v.voter.0 ++ v.signature.0)) in
    let parts : vote_bytes v ≡ v.header.0 ++ rest = simp append_assoc in
    omega (arith, ap length parts, length-append v.header.0 rest, is.header.count_is, is.signature.count_is)
message_short (message.Certificate c) is = omega (arith, certificate_encoded c is, is.header.batches.few, is.header.parents.few, is.votes.few)
message_short (message.Coin c) is = omega arith

pub event_fits : (event : Event) → IsMessage event.message → FitsGroup (map record_of (event ∷ []))
event_fits event is = record { some = omega arith; not_many = omega arith; not_long = omega (arith, message_short event.message is) }
