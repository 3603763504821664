use Rattle.std.proofs.Common.{◌≡◌, Some, None, Ok, ap, subst, ◌∙◌}
use Rattle.header.specs.Checks.{fault_of}
use Rattle.spec_model.specs.Words.{Event}
use Rattle.sigface.specs.Pair.{is_pair_signature}
use Rattle.node_run.specs.Taking.{Handles, IsSubmitted}
use Rattle.node_run.specs.declared.caller.Taken.TheVariants.{Waits}
use Rattle.node_run.proofs.Taken.{unchecked, waits, submitted, submitted_since, submits_more, goes_yet}
use Rattle.node_run.proofs.caller.Caller.take.Goals as goal

pub returns-in-Err-clause-handles : goal.returns-in-Err-clause-handles
returns-in-Err-clause-handles g c =
    let event : Event = record { sender = c.args.sender; message = c.args.message } in
    let charter = c.committee.ensures ∙ ap (λ setting. setting.charter) c.config.ensures.config ∙ ap (λ caller. caller.setting.charter) c.self.view_is in
    unchecked g.S.Sign.scheme c.args.self.now.node event c.args.self.now _ c.in-Err.error
    (subst (λ it. fault_of it is_pair_signature event ≡ Some c.in-Err.error) charter c.in-Err.ensures.refused)

pub returns-then-not-may_go-clause-handles : goal.returns-then-not-may_go-clause-handles
returns-then-not-may_go-clause-handles g c =
    let scheme = g.S.Sign.scheme in
    let node = c.args.self.now.node in
    let charter = c.committee.ensures ∙ ap (λ setting. setting.charter) c.config.ensures.config ∙ ap (λ caller. caller.setting.charter) c.self.view_is in
    let passed = subst (λ it. fault_of it is_pair_signature c.in-Ok.event ≡ None) charter c.in-Ok.ensures.passed in
    subst (λ (event : Event). Handles scheme node (fault_of c.args.self.now.setting.charter is_pair_signature event) event c.args.self.now c.may_go.new.self (Ok (Waits c.in-Ok.event)))
    c.in-Ok.ensures.checked
    (waits scheme node c.in-Ok.event c.args.self.now c.may_go.new.self _ passed (c.may_go.ensures.waits c.if-not-may_go.true) c.may_go.ensures.same)

pub returns-clause-handles : goal.returns-clause-handles
returns-clause-handles g c =
    let scheme = g.S.Sign.scheme in
    let node = c.args.self.now.node in
    let mid = c.may_go.new.self in
    let same = c.may_go.ensures.same in
    let charter = c.committee.ensures ∙ ap (λ setting. setting.charter) c.config.ensures.config ∙ ap (λ caller. caller.setting.charter) c.self.view_is in
    let passed = subst (λ it. fault_of it is_pair_signature c.in-Ok.event ≡ None) charter c.in-Ok.ensures.passed in
    let there = subst (λ caller. IsSubmitted scheme caller.node c.in-Ok.event caller c.submit.new.node c.submit.result) c.self-2.view_is c.submit.ensures.submitted in
    let here = subst (λ it. IsSubmitted scheme it c.in-Ok.event mid c.submit.new.node c.submit.result) c.may_go.ensures.stays.node there in
    subst (λ (event : Event). Handles scheme node (fault_of c.args.self.now.setting.charter is_pair_signature event) event c.args.self.now c.submit.new.node c.submit.result)
    c.in-Ok.ensures.checked
    (submitted scheme node c.in-Ok.event c.args.self.now c.submit.new.node _ c.submit.result passed
    (goes_yet scheme node c.in-Ok.event c.args.self.now mid c.submit.new.node (c.may_go.ensures.goes c.if-not-may_go.false)
    (submits_more scheme node c.in-Ok.event mid.seat.view c.submit.new.node.seat.view here.answer here.submits))
    (submitted_since scheme node c.in-Ok.event c.args.self.now mid c.submit.new.node c.submit.result same.number same.mine c.may_go.ensures.more here))
