use Rattle.std.proofs.Common.{◌≡◌, false, Some, ap, sym, ◌∙◌, rules}
use Rattle.std.specs.Prelude.{option_copied}
use Rattle.std.specs.Option.{option_map_or}
use Rattle.spec_checkpoint.specs.Faults.{same_body}
use Rattle.spec_checkpoint.specs.Meaning.{state_in}
use Rattle.spec_model.specs.Nodes.{node_view}
use Rattle.spec_model.specs.Slots.{Slots, slots_of}
use Rattle.spec_model.specs.Words.{Certificate}
use Rattle.ref_checkpoint.proofs.faults.has_certificate.Goals as goal

pub returns-in-None : goal.returns-in-None
returns-in-None g c =
    let node = node_view g.S.Sign.scheme c.args.node.now in
    let found : option_copied c.slot.result ≡ slots_of c.in_ok-held.held.items c.args.header.now.round node.own.0 = search rules in
    let held : slots_of c.in_ok-held.held.items c.args.header.now.round node.own.0 ≡ (state_in node c.args.checkpoint.now).slots c.args.header.now.round node.own.0 =
    ap (λ (slots : Slots). slots c.args.header.now.round node.own.0) c.in_ok-held.ensures in
    ap (λ o. option_map_or (λ (one : Certificate). same_body one.header c.args.header.now) o false) (sym (ap option_copied c.in-None.is) ∙ found ∙ held)

pub returns : goal.returns
returns g c =
    let node = node_view g.S.Sign.scheme c.args.node.now in
    let found : option_copied c.slot.result ≡ slots_of c.in_ok-held.held.items c.args.header.now.round node.own.0 = search rules in
    let held : slots_of c.in_ok-held.held.items c.args.header.now.round node.own.0 ≡ (state_in node c.args.checkpoint.now).slots c.args.header.now.round node.own.0 =
    ap (λ (slots : Slots). slots c.args.header.now.round node.own.0) c.in_ok-held.ensures in
    let is : Some c.in-Some.certificate.now ≡ (state_in node c.args.checkpoint.now).slots c.args.header.now.round node.own.0 = sym (ap option_copied c.in-Some.is) ∙ found ∙ held in
    rw (sym is) c.same_body.ensures
