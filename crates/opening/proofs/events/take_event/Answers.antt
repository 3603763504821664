use Rattle.std.proofs.Common.{◌≡◌, Some, sym, ◌∙◌}
use Rattle.journal.specs.declared.record.Record.{Record}
use Rattle.std.proofs.lemmas.Result.{on_ok_weaker}
use Rattle.spec_machine.specs.Machine.{after, answered}
use Rattle.validator.specs.Setting.{node_of}
use Rattle.opening.specs.Decoded.{event_in, read_event}
use Rattle.opening.proofs.Reporting.{read_none, read_new, read_old, new_answer, old_answer, fails_by, err_weaker}
use Rattle.opening.proofs.events.take_event.Goals as goal

pub returns-in_default-clause-err : goal.returns-in_default-clause-err
returns-in_default-clause-err g c = λ state at.
    let node = node_of g.S.Sign.scheme c.args.validator.now.setting in
    let one : Record = record { bytes = c.args.bytes.now; gate = c.args.place } in
    read_none node state one (sym c.in_default.is ∙ c.in_ok-found.ensures.found ∙ (λ i. event_in (c.committee.ensures i) one.bytes))

pub returns-clause-ok : goal.returns-clause-ok
returns-clause-ok g c =
    on_ok_weaker c.only_new.result
    (λ new state at.
    let node = node_of g.S.Sign.scheme c.args.validator.now.setting in
    let one : Record = record { bytes = c.args.bytes.now; gate = c.args.place } in
    let event = c.in-Some.event in
    let some : Some event ≡ event_in node.charter one.bytes = sym c.in-Some.is ∙ c.in_ok-found.ensures.found ∙ (λ i. event_in (c.committee.ensures i) one.bytes) in
    record {
      state = after node state event;
      is_read = read_new node state one event some (new_answer (answered node state event) c.step-step.result (c.step-step.ensures.answer state at) new);
      at = c.step-step.ensures.at new state at;
    })
    c.only_new.ensures.ok

pub returns-clause-err : goal.returns-clause-err
returns-clause-err g c =
    err_weaker c.only_new.result _ _
    (λ error is state at.
    let node = node_of g.S.Sign.scheme c.args.validator.now.setting in
    let one : Record = record { bytes = c.args.bytes.now; gate = c.args.place } in
    let event = c.in-Some.event in
    let some : Some event ≡ event_in node.charter one.bytes = sym c.in-Some.is ∙ c.in_ok-found.ensures.found ∙ (λ i. event_in (c.committee.ensures i) one.bytes) in
    fails_by error (read_event node state one) one.gate
    (λ other. ((is other).0, read_old node state one event some (old_answer (answered node state event) c.step-step.result (c.step-step.ensures.answer state at) (is other).1))))
    c.only_new.ensures.err
