use Rattle.std.proofs.Common.{inl, inr, ap, ◌∙◌}
use Rattle.spec_model.specs.Nodes.{node_view}
use Rattle.ref_admission.proofs.Answered.{one_answered}
use Rattle.ref_admission.proofs.runs.answers.Goals as goal
use Rattle.ref_admission.proofs.runs.answers.Goals.{then-not-is_new+in-Some+in-Batch-1, then-not-is_new+in-Some+in-Header-1}
use Rattle.ref_admission.proofs.runs.answers.Goals.{then-not-is_new+in-Some+in-Certificate-1, then-not-is_new+in-Some+in-BatchAck-1}
use Rattle.ref_admission.proofs.runs.answers.Goals.{then-not-is_new+in-None-1, else-not-is_new}

pub loop-event-preserved : goal.loop-event-preserved
loop-event-preserved g c =
    let until = c.loop-event in
    let grown = c.push.new.self in
    one_answered (node_view g.S.Sign.scheme c.args.node.now) until.found.items c.push-in-loop-event.new.self.items _ until.history.items grown.items c.if-not-is_new.history.items
    until.event-iterator.rest.items c.next.new.self.rest.items c.in-Some.event c.in_ok-answer.answer c.is_new.result grown.len
    (c.in_ok-answer.ensures until.history.items c.in-Some.event (c.deref.ensures.value ∙ c.in_ok-push.ensures.items)) c.is_new.ensures c.in_ok-push.ensures.items grown.ok.0
    (elim c.if-not-is_new.branch [
      | then-not-is_new+in-Some+in-Batch-1 w ↦ inl (w.if-not-is_new.true, ap (λ h. h.items) w.history-is ∙ w.pop.ensures.rest)
      | then-not-is_new+in-Some+in-Header-1 w ↦ inl (w.if-not-is_new.true, ap (λ h. h.items) w.history-is ∙ w.pop.ensures.rest)
      | then-not-is_new+in-Some+in-Certificate-1 w ↦ inl (w.if-not-is_new.true, ap (λ h. h.items) w.history-is ∙ w.pop.ensures.rest)
      | then-not-is_new+in-Some+in-BatchAck-1 w ↦ inl (w.if-not-is_new.true, ap (λ h. h.items) w.history-is ∙ w.pop.ensures.rest)
      | then-not-is_new+in-None-1 w ↦ inl (w.if-not-is_new.true, ap (λ h. h.items) w.history-is ∙ w.pop.ensures.rest)
      | else-not-is_new w ↦ inr (w.if-not-is_new.false, ap (λ h. h.items) w.history-is)
    ])
    c.in_ok-push-2.ensures.items c.in-Some.ensures.steps.0 until.invariant
