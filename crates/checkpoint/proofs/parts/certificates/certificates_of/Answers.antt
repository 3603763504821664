use Rattle.std.proofs.Common.{◌++◌, ◌∷◌, [], ap, sym, arith, ◌∙◌}
use Rattle.std.specs.Global.{Vec}
use Rattle.spec_model.specs.Words.{Certificate, Digest}
use Rattle.dag.specs.Graph.{certificates_in}
use Rattle.checkpoint.proofs.Above.{above_more, all_above, genesis_more}
use Rattle.checkpoint.proofs.parts.certificates.certificates_of.Goals.{then-is_above_genesis+in_ok-digested+in_ok-push, else-is_above_genesis}
use Rattle.checkpoint.proofs.parts.certificates.certificates_of.Goals as goal

pub loop-place-preserved : goal.loop-place-preserved
loop-place-preserved c =
    let all = certificates_in c.args.dag.now in
    let certificate = c.in-Some.certificate.now in
    elim c.if-is_above_genesis.branch [
      | then-is_above_genesis+in_ok-digested+in_ok-push w ↦
          ap (λ (v : Vec (Certificate × Digest)). v.items) w.found-is ∙ w.in_ok-push.ensures.items ∙ ap (λ l. l ++ w.in_ok-digested.field-0 ∷ []) c.loop-place.invariant
          ∙ above_more all c.loop-place.place certificate w.in_ok-digested.field-0 (sym c.in-Some.ensures) w.in_ok-digested.ensures (sym c.is_above_genesis.ensures ∙ w.if-is_above_genesis.true)
      | else-is_above_genesis w ↦
          ap (λ (v : Vec (Certificate × Digest)). v.items) w.found-is ∙ c.loop-place.invariant
          ∙ genesis_more all c.loop-place.place certificate (sym c.in-Some.ensures) (sym c.is_above_genesis.ensures ∙ w.if-is_above_genesis.false)
    ]

pub returns : goal.returns
returns c = c.loop-place.invariant ∙ all_above c.args.dag.now c.loop-place.place c.limits_hold.ensures (omega (arith, c.loop-place-test.false))
