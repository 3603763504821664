use Rattle.std.proofs.Common.{◌≡◌, Bool, true, ap, sym, ◌∙◌}
use Rattle.std.specs.Prelude.{◌&&◌, not}
use Rattle.wire.specs.declared.keys.Digest.{Digest}
use Rattle.spec_model.specs.Admitting.{is_own}
use Rattle.spec_model.specs.Holdings.{batch_digest}
use Rattle.spec_model.specs.Nodes.{node_view}
use Rattle.spec_model.specs.States.{is_available}
use Rattle.ref_admission.proofs.proposing.is_nameable.Goals as goal

pub returns-then-is_own : goal.returns-then-is_own
returns-then-is_own g c =
    let node = node_view g.S.Sign.scheme c.args.node.now in
    let state = g.H.Held.state c.args.held.now in
    let waiting = λ (digest : Digest). is_available node state digest && not (state.named digest) in
    let own : is_own node c.args.batch.now.author ≡ true =
    ap (is_own node) (sym c.author.ensures) ∙ sym c.is_own.ensures ∙ c.if-is_own.true in
    c.is_waiting.ensures ∙ ap waiting c.digest_of_batch.ensures ∙ sym (ap (λ (b : Bool). b && waiting (batch_digest c.args.batch.now)) own)
