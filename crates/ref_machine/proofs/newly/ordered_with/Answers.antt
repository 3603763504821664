use Rattle.std.proofs.Common.{ℕ, List, ◌++◌, ap, ◌∙◌}
use Rattle.spec_machine.specs.Machine.{newly_ordered}
use Rattle.spec_model.specs.Holdings.{ledger_of}
use Rattle.spec_model.specs.Nodes.{node_view}
use Rattle.spec_model.specs.Slots.{slots_of}
use Rattle.spec_model.specs.Words.{Certificate, Digest}
use Rattle.ref_machine.proofs.newly.ordered_with.Goals as goal

pub returns : goal.returns
returns g c =
    let node = node_view g.S.Sign.scheme c.args.node.now in
    let tables = c.args.tables.now in
    let later = ledger_of node (slots_of c.args.certificates.now) c.args.coins.now in
    c.in_ok-append.ensures.items
    ∙ ap (λ (l : List Digest). l ++ c.in_ok-newly_ordered.field-0.items) (c.in_ok-order.ensures ∙ c.deref-3.ensures.value)
    ∙ ap (λ (l : List Digest). tables.order.items ++ l)
    (c.in_ok-newly_ordered.ensures
    ∙ ap (λ (x : List Certificate). newly_ordered (ledger_of node (slots_of x) c.deref-2.result.now) later) c.deref.ensures.value
    ∙ ap (λ (x : List ℕ). newly_ordered (ledger_of node (slots_of tables.certificates.items) x) later) c.deref-2.ensures.value)
