use Rattle.std.proofs.Common.{◌≡◌, IfOk, ap, ◌∙◌, subst}
use Rattle.spec_machine.specs.Machine as machine
use Rattle.spec_model.specs.Admitting.{answer}
use Rattle.spec_model.specs.Nodes.{node_view}
use Rattle.spec_model.specs.States.{State}
use Rattle.spec_model.specs.Words.{Event}
use Rattle.ref_machine.specs.Tables.{state_of}
use Rattle.ref_machine.proofs.stepping.answered.Goals as goal

pub returns : goal.returns
returns g c =
    let node = node_view g.S.Sign.scheme c.args.node.now in
    let now = state_of c.args.tables.now in
    subst (λ (s : State). IfOk c.answer.result (λ found. found ≡ answer node now s c.args.event.now))
    (c.in_ok-later.ensures ∙ ap (λ (s : State). machine.grown node s c.event.inside.message) c.in_ok-try_clone.ensures ∙ ap (λ (e : Event). machine.grown node now e.message) c.event.view_is)
    c.answer.ensures
