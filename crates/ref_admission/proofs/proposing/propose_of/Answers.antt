use Rattle.std.proofs.Common.{◌≡◌, ◌^◌, Bool, true, false, cond, Some, None, refl, ap, sym, ◌∙◌}
use Rattle.std.specs.Prelude.{◌||◌, nat_lt, is_some}
use Rattle.std.proofs.lemmas.Bool.{le-ltb}
use Rattle.spec_model.specs.Nodes.{node_view}
use Rattle.spec_model.specs.Proposing.{proposal_of, signed}
use Rattle.ref_admission.proofs.proposing.propose_of.Goals as goal

-- what is given where neither of two tests holds
neither : {X : Type 0} (a b : Bool) (x : X) → a ≡ false → b ≡ false → Some x ≡ cond (a || b) None (Some x)
neither true b x h k = absurd cc
neither false true x h k = absurd cc
neither false false x h k = refl

pub returns-in_ok-body-in-Ok : goal.returns-in_ok-body-in-Ok
returns-in_ok-body-in-Ok g c =
    let node = node_view g.S.Sign.scheme c.args.node.now in
    let state = g.H.Held.state c.args.held.now in
    let round = c.args.round in
    let none_yet : is_some (state.own_headers round) ≡ false = sym c.has_header.ensures ∙ c.if-has_header.false in
    let within : nat_lt (2 ^ 48) round ≡ false = le-ltb (2 ^ 48) round c.in-Ok.ensures.no_other in
    let same : c.signed.result ≡ signed node (proposal_of node state round) =
    c.signed.ensures ∙ ap (signed node) (c.in_ok-body-in-Ok.ensures ∙ ap (proposal_of node state) c.in-Ok.ensures.ok) in
    ap Some same ∙ neither (is_some (state.own_headers round)) (nat_lt (2 ^ 48) round) (signed node (proposal_of node state round)) none_yet within
