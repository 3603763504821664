use Rattle.std.proofs.Common.{sym, ◌∙◌}
use Rattle.wire.specs.declared.message.Message.TheVariants as message
use Rattle.validator.proofs.Meeting.{met, meet_some}
use Rattle.validator.proofs.taking.take.Goals as goal

pub take_batch-requires-clause-meets : goal.take_batch-requires-clause-meets
take_batch-requires-clause-meets g c = meet_some c.args.tables.now c.args.event.message (message.Batch c.in-Batch.batch) (sym c.into_message.ensures ∙ c.in-Batch.is) c.requires.meets

pub returns-in-Batch-clause-answer : goal.returns-in-Batch-clause-answer
returns-in-Batch-clause-answer g c = λ node state meets signs.
    c.take_batch.ensures.answer node state c.args.event (met node state c.args.event c.args.tables.now (message.Batch c.in-Batch.batch) meets (sym c.into_message.ensures ∙ c.in-Batch.is))

pub returns-in-Batch-clause-refused : goal.returns-in-Batch-clause-refused
returns-in-Batch-clause-refused g c = λ node state meets signs.
    c.take_batch.ensures.refused node state c.args.event (met node state c.args.event c.args.tables.now (message.Batch c.in-Batch.batch) meets (sym c.into_message.ensures ∙ c.in-Batch.is))

pub returns-in-Batch-clause-at : goal.returns-in-Batch-clause-at
returns-in-Batch-clause-at g c = λ new node state meets signs there.
    c.take_batch.ensures.at new node state c.args.event (met node state c.args.event c.args.tables.now (message.Batch c.in-Batch.batch) meets (sym c.into_message.ensures ∙ c.in-Batch.is)) there

pub take_ack-requires : goal.take_ack-requires
take_ack-requires g c = record { meets = meet_some c.args.tables.now c.args.event.message (message.BatchAck c.in-BatchAck.ack) (sym c.into_message.ensures ∙ c.in-BatchAck.is) c.requires.meets }

pub returns-in-BatchAck-clause-answer : goal.returns-in-BatchAck-clause-answer
returns-in-BatchAck-clause-answer g c = λ node state meets signs.
    c.take_ack.ensures.answer node state c.args.event (met node state c.args.event c.args.tables.now (message.BatchAck c.in-BatchAck.ack) meets (sym c.into_message.ensures ∙ c.in-BatchAck.is))

pub returns-in-BatchAck-clause-refused : goal.returns-in-BatchAck-clause-refused
returns-in-BatchAck-clause-refused g c = λ node state meets signs.
    c.take_ack.ensures.refused node state c.args.event (met node state c.args.event c.args.tables.now (message.BatchAck c.in-BatchAck.ack) meets (sym c.into_message.ensures ∙ c.in-BatchAck.is))

pub returns-in-BatchAck-clause-at : goal.returns-in-BatchAck-clause-at
returns-in-BatchAck-clause-at g c = λ new node state meets signs there.
    c.take_ack.ensures.at new node state c.args.event (met node state c.args.event c.args.tables.now (message.BatchAck c.in-BatchAck.ack) meets (sym c.into_message.ensures ∙ c.in-BatchAck.is)) there

pub take_header-requires-clause-meets : goal.take_header-requires-clause-meets
take_header-requires-clause-meets g c = meet_some c.args.tables.now c.args.event.message (message.Header c.in-Header.header) (sym c.into_message.ensures ∙ c.in-Header.is) c.requires.meets

pub returns-in-Header-clause-answer : goal.returns-in-Header-clause-answer
returns-in-Header-clause-answer g c = λ node state meets signs.
    c.take_header.ensures.answer node state c.args.event (met node state c.args.event c.args.tables.now (message.Header c.in-Header.header) meets (sym c.into_message.ensures ∙ c.in-Header.is)) signs

pub returns-in-Header-clause-refused : goal.returns-in-Header-clause-refused
returns-in-Header-clause-refused g c = λ node state meets signs.
    c.take_header.ensures.refused node state c.args.event (met node state c.args.event c.args.tables.now (message.Header c.in-Header.header) meets (sym c.into_message.ensures ∙ c.in-Header.is)) signs

pub returns-in-Header-clause-at : goal.returns-in-Header-clause-at
returns-in-Header-clause-at g c = λ new node state meets signs there.
    c.take_header.ensures.at new node state c.args.event
    (met node state c.args.event c.args.tables.now (message.Header c.in-Header.header) meets (sym c.into_message.ensures ∙ c.in-Header.is)) signs
    there

pub take_vote-requires : goal.take_vote-requires
take_vote-requires g c = record { meets = meet_some c.args.tables.now c.args.event.message (message.Vote c.in-Vote.vote) (sym c.into_message.ensures ∙ c.in-Vote.is) c.requires.meets }

pub returns-in-Vote-clause-answer : goal.returns-in-Vote-clause-answer
returns-in-Vote-clause-answer g c = λ node state meets signs.
    c.take_vote.ensures.answer node state c.args.event (met node state c.args.event c.args.tables.now (message.Vote c.in-Vote.vote) meets (sym c.into_message.ensures ∙ c.in-Vote.is))

pub returns-in-Vote-clause-refused : goal.returns-in-Vote-clause-refused
returns-in-Vote-clause-refused g c = λ node state meets signs.
    c.take_vote.ensures.refused node state c.args.event (met node state c.args.event c.args.tables.now (message.Vote c.in-Vote.vote) meets (sym c.into_message.ensures ∙ c.in-Vote.is))

pub returns-in-Vote-clause-at : goal.returns-in-Vote-clause-at
returns-in-Vote-clause-at g c = λ new node state meets signs there.
    c.take_vote.ensures.at new node state c.args.event (met node state c.args.event c.args.tables.now (message.Vote c.in-Vote.vote) meets (sym c.into_message.ensures ∙ c.in-Vote.is)) there

pub take_certificate-requires-clause-meets : goal.take_certificate-requires-clause-meets
take_certificate-requires-clause-meets g c = meet_some c.args.tables.now c.args.event.message (message.Certificate c.in-Certificate.certificate)
    (sym c.into_message.ensures ∙ c.in-Certificate.is) c.requires.meets

pub returns-in-Certificate-clause-answer : goal.returns-in-Certificate-clause-answer
returns-in-Certificate-clause-answer g c = λ node state meets signs.
    c.take_certificate.ensures.answer node state c.args.event
    (met node state c.args.event c.args.tables.now (message.Certificate c.in-Certificate.certificate) meets
    (sym c.into_message.ensures ∙ c.in-Certificate.is))

pub returns-in-Certificate-clause-refused : goal.returns-in-Certificate-clause-refused
returns-in-Certificate-clause-refused g c = λ node state meets signs.
    c.take_certificate.ensures.refused node state c.args.event
    (met node state c.args.event c.args.tables.now (message.Certificate c.in-Certificate.certificate) meets
    (sym c.into_message.ensures ∙ c.in-Certificate.is))

pub returns-in-Certificate-clause-at : goal.returns-in-Certificate-clause-at
returns-in-Certificate-clause-at g c = λ new node state meets signs there.
    c.take_certificate.ensures.at new node state c.args.event
    (met node state c.args.event c.args.tables.now (message.Certificate c.in-Certificate.certificate) meets
    (sym c.into_message.ensures ∙ c.in-Certificate.is)) there

pub returns-in-Coin-clause-answer : goal.returns-in-Coin-clause-answer
returns-in-Coin-clause-answer g c = λ node state meets signs.
    c.take_coin.ensures.answer node state c.args.event
    (met node state c.args.event c.args.tables.now (message.Coin c.in-Coin.coin) meets (sym c.into_message.ensures ∙ c.in-Coin.is))
    (sym c.sender-sender.ensures)

pub returns-in-Coin-clause-refused : goal.returns-in-Coin-clause-refused
returns-in-Coin-clause-refused g c = λ node state meets signs.
    c.take_coin.ensures.refused node state c.args.event
    (met node state c.args.event c.args.tables.now (message.Coin c.in-Coin.coin) meets (sym c.into_message.ensures ∙ c.in-Coin.is))
    (sym c.sender-sender.ensures)

pub returns-in-Coin-clause-at : goal.returns-in-Coin-clause-at
returns-in-Coin-clause-at g c = λ new node state meets signs there.
    c.take_coin.ensures.at new node state c.args.event (met node state c.args.event c.args.tables.now (message.Coin c.in-Coin.coin) meets (sym c.into_message.ensures ∙ c.in-Coin.is)) there
