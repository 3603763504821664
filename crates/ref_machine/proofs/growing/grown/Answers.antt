use Rattle.std.proofs.Common.{◌≡◌, ℕ, List, ◌++◌, Option, ap, ◌∙◌, option_copied}
use Rattle.std.proofs.Math.Path.{fun_ext}
use Rattle.std.specs.Option.{option_to_list}
use Rattle.spec_machine.specs.Machine.{certificate_of, highest_with, newly_ordered, slots_with}
use Rattle.spec_machine.specs.Machine as machine
use Rattle.spec_machine.proofs.Grown.{same_state}
use Rattle.spec_model.specs.Histories.{as_coin}
use Rattle.spec_model.specs.Holdings.{ledger_of}
use Rattle.spec_model.specs.Nodes.{node_view}
use Rattle.spec_model.specs.Slots.{Slots, slots_of}
use Rattle.spec_model.specs.States.{ledger_in}
use Rattle.spec_model.specs.Words.{Certificate}
use Rattle.ref_machine.specs.Tables.{state_of}
use Rattle.ref_machine.proofs.growing.grown.Goals as goal

pub returns : goal.returns
returns g c =
    let node = node_view g.S.Sign.scheme c.args.node.now in
    let message = c.args.message.now in
    let tables = c.args.tables in
    let before = state_of tables in
    let now = ledger_in node before in
    let certificate = certificate_of node before message in
    let added : option_copied c.as_ref.result ≡ certificate = c.as_ref.ensures.value ∙ c.in_ok-certificate.ensures in
    let added_too : option_copied c.as_ref-2.result ≡ certificate = c.as_ref-2.ensures.value ∙ c.in_ok-certificate.ensures in
    let slots : slots_of c.in_ok-certificates-2.certificates.items ≡ slots_with before.slots certificate =
    fun_ext (λ round. fun_ext (λ author. c.in_ok-certificates-2.ensures round author))
    ∙ ap (λ (s : Slots). slots_with s (option_copied c.as_ref.result)) c.in_ok-certificates.ensures
    ∙ ap (λ (o : Option Certificate). slots_with before.slots o) added in
    let coins : c.in_ok-coins-2.coins.items ≡ before.coins ++ option_to_list (as_coin message) =
    c.in_ok-coins-2.ensures ∙ ap (λ (l : List ℕ). l ++ option_to_list (as_coin message)) c.in_ok-coins.ensures in
    let order : c.in_ok-order.order.items ≡ before.order ++ newly_ordered now (ledger_of node (slots_with before.slots certificate) (before.coins ++ option_to_list (as_coin message))) =
    c.in_ok-order.ensures
    ∙ ap (λ (l : List Certificate). before.order ++ newly_ordered now (ledger_of node (slots_of l) c.deref-2.result.now)) c.deref.ensures.value
    ∙ ap (λ (s : Slots). before.order ++ newly_ordered now (ledger_of node s c.deref-2.result.now)) slots
    ∙ ap (λ (l : List ℕ). before.order ++ newly_ordered now (ledger_of node (slots_with before.slots certificate) l)) (c.deref-2.ensures.value ∙ coins) in
    same_state _ (machine.grown node before message)
    c.in_ok-with_batch.ensures
    (fun_ext (λ digest. fun_ext (λ member. c.in_ok-with_ack.ensures digest member)))
    (fun_ext (λ digest. c.in_ok-with_named.ensures digest))
    (fun_ext (λ round. fun_ext (λ author. c.in_ok-with_vote.ensures round author)))
    (fun_ext (λ round. c.in_ok-with_own_header.ensures round))
    (fun_ext (λ round. fun_ext (λ voter. c.in_ok-with_counted.ensures round voter)))
    slots
    (c.highest_with.ensures ∙ ap (highest_with before.highest) added_too)
    coins
    order
