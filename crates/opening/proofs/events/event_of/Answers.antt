use Rattle.std.proofs.Common.{drop, ap, sym, subst, ◌∙◌}
use Rattle.std.proofs.lemmas.List.{take_rest}
use Rattle.opening.specs.Decoded.{checked_in, if_passed, sender_in}
use Rattle.opening.proofs.Reporting.{ok_weaker, event_short, event_other, event_is, unread_none}
use Rattle.opening.proofs.events.event_of.Goals as goal
use Rattle.opening.proofs.events.event_of.Goals.{then-bytes-lt-FRONT_BYTES-via-then-bytes-lt-FRONT_BYTES, then-bytes-lt-FRONT_BYTES-via-else-bytes-lt-FRONT_BYTES+then-bytes-ne-EVENT}
use Rattle.wire.specs.Reading.{Faults, message_of}

pub returns-then-bytes-lt-FRONT_BYTES-clause-found : goal.returns-then-bytes-lt-FRONT_BYTES-clause-found
returns-then-bytes-lt-FRONT_BYTES-clause-found c =
    elim c.then-bytes-lt-FRONT_BYTES.branch [
      | then-bytes-lt-FRONT_BYTES-via-then-bytes-lt-FRONT_BYTES w ↦ sym (event_short c.args.committee.now c.args.bytes.now w.if-bytes-lt-FRONT_BYTES.true)
      | then-bytes-lt-FRONT_BYTES-via-else-bytes-lt-FRONT_BYTES+then-bytes-ne-EVENT w ↦ sym (event_other c.args.committee.now c.args.bytes.now w.if-bytes-lt-FRONT_BYTES.false w.if-bytes-ne-EVENT.true)
    ]

pub returns-in-Ok-clause-found : goal.returns-in-Ok-clause-found
returns-in-Ok-clause-found c =
    let charter = c.args.committee.now in
    let bytes = c.args.bytes.now in
    c.passed.ensures.found
    ∙ (λ i. if_passed charter (record { sender = record { 0 = c.from_be_bytes.ensures i }; message = c.in-Ok.message }))
    ∙ sym (event_is charter bytes c.if-bytes-lt-FRONT_BYTES.false c.if-bytes-ne-EVENT.false ∙ ap (checked_in charter (sender_in bytes))
    (ap message_of (sym (take_rest bytes 3)) ∙ c.in-Ok.ensures.fault))

pub returns-in-Err-clause-found : goal.returns-in-Err-clause-found
returns-in-Err-clause-found c =
    let charter = c.args.committee.now in
    let bytes = c.args.bytes.now in
    ok_weaker c.unread.result _ _
    (λ found is. is.0 ∙ sym (event_is charter bytes c.if-bytes-lt-FRONT_BYTES.false c.if-bytes-ne-EVENT.false
    ∙ unread_none charter (sender_in bytes) c.in-Err.error (message_of (drop 3 bytes))
    (subst (λ r. Faults c.in-Err.error r) (ap message_of (take_rest bytes 3)) c.in-Err.ensures.fault) is.1))
    c.unread.ensures
