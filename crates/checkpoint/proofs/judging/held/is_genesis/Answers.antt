use Rattle.std.proofs.Common.{◌≡◌, true, false, sym, ap, ◌∙◌, rules}
use Rattle.std.specs.Prelude.{nat_lt}
use Rattle.spec_model.specs.Nodes.{node_view}
use Rattle.spec_model.specs.Slots.{same_digest}
use Rattle.checkpoint.proofs.SlotsAt.{of_member, of_stranger}
use Rattle.checkpoint.proofs.judging.held.is_genesis.Goals as goal

pub returns-then-parent-size : goal.returns-then-parent-size
returns-then-parent-size g c =
    let node = node_view g.S.Sign.scheme c.args.node.now in
    let parent = c.args.parent.now in
    let member : nat_lt parent.author.0 c.size.result ≡ true = search rules in
    let is : c.eq.result ≡ same_digest c.genesis_digest.result parent.certificate = search rules in
    is ∙ of_member node parent c.genesis_digest.result c.genesis_digest.ensures (ap (nat_lt parent.author.0) (sym c.size.ensures.value) ∙ member)

pub returns-else-parent-size : goal.returns-else-parent-size
returns-else-parent-size g c =
    let node = node_view g.S.Sign.scheme c.args.node.now in
    let parent = c.args.parent.now in
    let stranger : nat_lt parent.author.0 c.size.result ≡ false = search rules in
    stranger ∙ sym (of_stranger node parent (ap (nat_lt parent.author.0) (sym c.size.ensures.value) ∙ stranger))
