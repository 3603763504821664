use Rattle.std.proofs.Common.{List, ◌+◌, ap, ◌∙◌}
use Rattle.spec_machine.specs.Machine.{full_to}
use Rattle.spec_model.specs.Nodes.{node_view}
use Rattle.spec_model.specs.Slots.{slots_of}
use Rattle.spec_model.specs.Words.{Certificate}
use Rattle.ref_machine.proofs.rounds.round_in.Goals as goal

pub returns : goal.returns
returns g c =
    let node = node_view g.S.Sign.scheme c.args.node.now in
    ap (λ n. 1 + n)
    (c.full_to.ensures.value
    ∙ ap (λ (l : List Certificate). full_to node (slots_of l) c.number.result) c.deref.ensures.value
    ∙ ap (full_to node (slots_of c.args.tables.now.certificates.items)) c.number.ensures.value)
