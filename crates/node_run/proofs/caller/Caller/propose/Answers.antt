use Rattle.std.proofs.Common.{◌≡◌, None, ap, subst, sym, ◌∙◌}
use Rattle.header.specs.Checks.{fault_of, accepts_all}
use Rattle.wire.specs.Lists.{Begins}
use Rattle.spec_machine.specs.Machine.{proposed}
use Rattle.spec_model.specs.States.{State}
use Rattle.spec_model.specs.Words.{Author}
use Rattle.node_shared.specs.Home.{IsBase, seen_in}
use Rattle.validator.specs.Setting.{node_of}
use Rattle.wire.specs.declared.message.Message.TheVariants as message
use Rattle.node_run.specs.Taking.{IsSubmitted}
use Rattle.node_run.proofs.Proposed.{own_fault, none_proposed, never_passed, was_proposed, lacked_memory}
use Rattle.node_run.proofs.Taken.{submitted_since, submits_more}
use Rattle.node_run.proofs.caller.Caller.propose.Goals as goal

pub returns-in_default-clause-proposed : goal.returns-in_default-clause-proposed
returns-in_default-clause-proposed g c =
    let before = c.args.self.now in
    let mid = c.propose.new.self in
    let scheme = g.S.Sign.scheme in
    let node = before.node in
    let found = subst (λ it. (base : State) → IsBase scheme it.node base → c.in_ok-header.field-0 ≡ proposed (node_of scheme it.node.setting) (seen_in (node_of scheme it.node.setting) base mid.seat))
    c.self.view_is c.in_ok-header.ensures.header in
    none_proposed scheme node before mid (c.propose.ensures.looked.same.mine ∙ ap (λ it. it.seat.view.mine) c.self.view_is)
    (subst (λ it. Begins it.seat.view.seen mid.seat.view.seen) c.self.view_is c.propose.ensures.looked.more)
    c.in_ok-header.field-0 found c.in_default.is

pub returns-in_default-recheck-clause-proposed : goal.returns-in_default-recheck-clause-proposed
returns-in_default-recheck-clause-proposed g c =
    let before = c.args.self.now in
    let mid = c.propose.new.self in
    let scheme = g.S.Sign.scheme in
    let node = before.node in
    let found = subst (λ it. (base : State) → IsBase scheme it.node base → c.in_ok-header.field-0 ≡ proposed (node_of scheme it.node.setting) (seen_in (node_of scheme it.node.setting) base mid.seat))
    c.self.view_is c.in_ok-header.ensures.header in
    let stays = c.propose.ensures.stays.node ∙ ap (λ it. it.node) c.self.view_is in
    let at_node = ap (λ it. it.setting) stays in
    let setting = c.config.ensures.config ∙ sym c.config.ensures.node ∙ at_node in
    let setting-2 = c.config-2.ensures.config ∙ sym c.config-2.ensures.node ∙ at_node in
    never_passed scheme node before mid (c.propose.ensures.looked.same.mine ∙ ap (λ it. it.seat.view.mine) c.self.view_is)
    (subst (λ it. Begins it.seat.view.seen mid.seat.view.seen) c.self.view_is c.propose.ensures.looked.more)
    c.in_ok-header.field-0 c.in-Some.header c.in_default-recheck.field-0 found c.in-Some.is
    (own_fault (node_of scheme node.setting) c.committee-committee.result.now c.own-own.result c.in-Some.header _
    (c.committee-committee.ensures ∙ ap (λ it. it.charter) setting) (c.own-own.ensures ∙ ap (λ it. it.own) setting-2) c.in_default-recheck.ensures.refused)

pub returns-clause-proposed : goal.returns-clause-proposed
returns-clause-proposed g c =
    let before = c.args.self.now in
    let mid = c.propose.new.self in
    let later = c.submit.new.node in
    let scheme = g.S.Sign.scheme in
    let node = before.node in
    let found = subst (λ it. (base : State) → IsBase scheme it.node base → c.in_ok-header.field-0 ≡ proposed (node_of scheme it.node.setting) (seen_in (node_of scheme it.node.setting) base mid.seat))
    c.self.view_is c.in_ok-header.ensures.header in
    let number = c.propose.ensures.looked.same.number ∙ ap (λ it. it.seat.view.number) c.self.view_is in
    let mine = c.propose.ensures.looked.same.mine ∙ ap (λ it. it.seat.view.mine) c.self.view_is in
    let more = subst (λ it. Begins it.seat.view.seen mid.seat.view.seen) c.self.view_is c.propose.ensures.looked.more in
    let stays = c.propose.ensures.stays.node ∙ ap (λ it. it.node) c.self.view_is in
    let at_node = ap (λ it. it.setting) stays in
    let setting-2 = c.config-2.ensures.config ∙ sym c.config-2.ensures.node ∙ at_node in
    let setting = c.config.ensures.config ∙ sym c.config.ensures.node ∙ at_node in
    let passed = subst (λ it. fault_of it accepts_all c.in-Ok.event ≡ None) (c.committee-committee.ensures ∙ ap (λ it. it.charter) setting) c.in-Ok.ensures.passed in
    let own = c.in-Ok.ensures.checked ∙ ap (λ (it : Author). record { sender = it; message = message.Header c.in-Some.header }) (c.own-own.ensures ∙ ap (λ it. it.own) setting-2) in
    let done = subst (λ it. IsSubmitted scheme it c.in-Ok.event mid later c.submit.result) stays c.submit.ensures.submitted in
    was_proposed scheme node before mid mine more later c.in_ok-header.field-0 c.in-Some.header c.in-Ok.event c.submit.result c.newness.result found
    c.in-Some.is own passed (submits_more scheme node c.in-Ok.event mid.seat.view later.seat.view done.answer done.submits)
    (submitted_since scheme node c.in-Ok.event before mid later c.submit.result number mine more done) c.newness.ensures.ok

pub returns-clause-memory : goal.returns-clause-memory
returns-clause-memory g c =
    lacked_memory g.S.Sign.scheme _ c.in-Ok.event c.args.self.now c.propose.new.self c.submit.new.node c.submit.result c.newness.result
    (c.propose.ensures.looked.same.mine ∙ ap (λ it. it.seat.view.mine) c.self.view_is) c.submit.ensures.submitted c.newness.ensures.err
