use Rattle.std.proofs.Common.{◌≡◌, IfOk, ap, ◌∙◌, subst}
use Rattle.spec_machine.specs.Machine as machine
use Rattle.spec_model.specs.Giving.{collected}
use Rattle.spec_model.specs.Nodes.{node_view}
use Rattle.spec_model.specs.States.{State}
use Rattle.spec_model.specs.Words.{Event}
use Rattle.ref_machine.specs.Tables.{state_of}
use Rattle.ref_machine.proofs.stepping.after.Goals as goal

pub returns : goal.returns
returns g c =
    let node = node_view g.S.Sign.scheme c.args.node.now in
    subst (λ (s : State). IfOk c.collected.result (λ found. state_of found ≡ collected node s))
    (c.in_ok-grown.ensures ∙ ap (λ (e : Event). machine.grown node (state_of c.args.tables) e.message) c.event.view_is)
    c.collected.ensures
