use Rattle.std.proofs.Common.{sym, ap, ◌∙◌, arith}
use Rattle.ref_machine.specs.Tables.{state_of}
use Rattle.ref_script.proofs.Steps.{desk_at, new_is, known_is, refused_is}
use Rattle.ref_script.proofs.stepping.with_event.Goals as goal
use Rattle.spec_machine.specs.After.{after_all}
use Rattle.spec_machine.specs.Machine.{answered}
use Rattle.spec_model.specs.Nodes.{node_view}

pub returns-in_ok-put_ticketed-in-New : goal.returns-in_ok-put_ticketed-in-New
returns-in_ok-put_ticketed-in-New g c =
    let node = node_view g.S.Sign.scheme c.args.node.now in
    let desk = c.args.desk in
    let base = state_of desk.base in
    let says = sym (c.in_ok-outputs.ensures ∙ ap (λ s. answered node s c.args.event) (c.in_ok-now.ensures ∙ ap (after_all node base) c.deref.ensures.value)) in
    (λ i. desk_at base (c.in_ok-push-in-New.ensures.items i) desk.settled (c.in_ok-put_ticketed-in-New.ensures i))
    ∙ new_is node base desk.accepted.items desk.settled c.len-count.result desk.waiting.items c.args.event c.in-New.outputs (omega (arith, desk.within, desk.accepted.ok.0))
    (c.len-count.ensures ∙ desk.accepted.ok.0) (says ∙ c.in-New.is)

pub returns-in_ok-put_ticketed-in-Known : goal.returns-in_ok-put_ticketed-in-Known
returns-in_ok-put_ticketed-in-Known g c =
    let node = node_view g.S.Sign.scheme c.args.node.now in
    let desk = c.args.desk in
    let base = state_of desk.base in
    let says = sym (c.in_ok-outputs.ensures ∙ ap (λ s. answered node s c.args.event) (c.in_ok-now.ensures ∙ ap (after_all node base) c.deref.ensures.value)) in
    (λ i. desk_at base desk.accepted.items desk.settled (c.in_ok-put_ticketed-in-Known.ensures i))
    ∙ known_is node base desk.accepted.items desk.settled c.len-count.result desk.waiting.items c.args.event c.in-Known.outputs
    (c.len-count.ensures ∙ desk.accepted.ok.0) (says ∙ c.in-Known.is)

pub returns-in-Refused : goal.returns-in-Refused
returns-in-Refused g c =
    let node = node_view g.S.Sign.scheme c.args.node.now in
    let desk = c.args.desk in
    let base = state_of desk.base in
    let says = sym (c.in_ok-outputs.ensures ∙ ap (λ s. answered node s c.args.event) (c.in_ok-now.ensures ∙ ap (after_all node base) c.deref.ensures.value)) in
    refused_is node base desk.accepted.items desk.settled desk.waiting.items c.args.event c.in-Refused.field-0 (says ∙ c.in-Refused.is)
