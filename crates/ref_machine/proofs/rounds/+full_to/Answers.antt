use Rattle.std.proofs.Common.{◌<◌, sym, ◌∙◌, arith}
use Rattle.spec_model.specs.Nodes.{node_view}
use Rattle.spec_model.specs.Slots.{slots_of}
use Rattle.ref_machine.proofs.Full.{full_here, full_below}
use Rattle.ref_machine.proofs.rounds.+full_to.Goals as goal

pub returns-then-is_full-clause-value : goal.returns-then-is_full-clause-value
returns-then-is_full-clause-value g t c =
    let node = node_view g.S.Sign.scheme c.args.node.now in
    let above : 0 < c.args.round = omega (arith, c.if-round-eq0.false) in
    sym (full_here node (slots_of c.args.certificates.now) c.args.round above (sym c.is_full.ensures ∙ c.if-is_full.true))

pub returns-clause-value : goal.returns-clause-value
returns-clause-value g t c =
    let node = node_view g.S.Sign.scheme c.args.node.now in
    let above : 0 < c.args.round = omega (arith, c.if-round-eq0.false) in
    c.full_to.ensures.value ∙ sym (full_below node (slots_of c.args.certificates.now) c.args.round above (sym c.is_full.ensures ∙ c.if-is_full.false))
