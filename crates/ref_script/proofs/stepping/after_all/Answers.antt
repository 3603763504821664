use Rattle.std.proofs.Common.{◌∷◌, drop, sym, ap, ◌∙◌, ◌+◌, arith}
use Rattle.std.proofs.lemmas.List.{drop_more, drop_all}
use Rattle.ref_machine.specs.Tables.{state_of}
use Rattle.spec_machine.specs.After.{after_all}
use Rattle.spec_model.specs.Nodes.{node_view}
use Rattle.ref_script.proofs.Steps.{after_first, after_none}
use Rattle.ref_script.proofs.stepping.after_all.Goals as goal

pub loop-event-preserved : goal.loop-event-preserved
loop-event-preserved g c =
    let node = node_view g.S.Sign.scheme c.args.node.now in
    let events = c.args.events.now in
    let at = c.loop-event.event-index in
    let event = c.event-item.result in
    let front = drop_more events at event c.loop-event-test.true ∙ ap (λ e. e ∷ drop (at + 1) events) (sym c.event-item.is) in
    ap (λ s. after_all node s (drop (at + 1) events)) c.in_ok-tables-2.ensures
    ∙ sym (ap (after_all node (state_of c.loop-event.tables)) front ∙ after_first node (state_of c.loop-event.tables) event (drop (at + 1) events))
    ∙ c.loop-event.invariant

pub returns : goal.returns
returns g c =
    let node = node_view g.S.Sign.scheme c.args.node.now in
    let tables = state_of c.loop-event.tables in
    sym (ap (after_all node tables) (drop_all c.loop-event.event-index c.args.events.now (omega (arith, c.loop-event-test.false))) ∙ after_none node tables) ∙ c.loop-event.invariant
