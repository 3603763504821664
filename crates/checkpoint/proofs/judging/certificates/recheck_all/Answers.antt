use Rattle.std.proofs.Common.{◌≡◌, Bool, ◌++◌, ◌∷◌, [], List, map, sym, ap, subst, ◌∙◌}
use Rattle.std.specs.Prelude.{All}
use Rattle.std.proofs.lemmas.List.{map-append}
use Rattle.std.proofs.lemmas.List.Elements.{All-push}
use Rattle.sequencer.specs.Restored.{Digested}
use Rattle.spec_model.specs.Nodes.{node_view}
use Rattle.spec_model.specs.Slots.{certificate_digest}
use Rattle.spec_model.specs.Words.{Certificate}
use Rattle.checkpoint.specs.Judging.{passes_itself}
use Rattle.checkpoint.specs.Kept.{certificate_of}
use Rattle.checkpoint.proofs.judging.certificates.recheck_all.Goals as goal

pub loop-certificate-preserved : goal.loop-certificate-preserved
loop-certificate-preserved g c =
    let node = node_view g.S.Sign.scheme c.args.node.now in
    let done = c.loop-certificate.yielded in
    let next = c.in-Some.certificate in
    let entry : Digested = (next, c.in_ok-digest.digest) in
    let items = c.in_ok-push.ensures.items in
    record {
      list = ap (map certificate_of) items ∙ map-append certificate_of c.loop-certificate.list.items (entry ∷ [])
          ∙ ap (λ (l : List Certificate). l ++ next ∷ []) c.loop-certificate.invariant.list;
      digested = subst (All (λ (one : Digested). one.1 ≡ certificate_digest one.0.header)) (sym items)
          (All-push (λ (one : Digested). one.1 ≡ certificate_digest one.0.header) c.loop-certificate.list.items entry c.loop-certificate.invariant.digested c.in_ok-digest.ensures.digest);
      passed = c.in_ok-push-2.ensures.items ∙ ap (λ (l : List Bool). l ++ c.in_ok-digest.passes ∷ []) c.loop-certificate.invariant.passed
          ∙ ap (λ (b : Bool). map (passes_itself node) done ++ b ∷ []) c.in_ok-digest.ensures.passes ∙ sym (map-append (passes_itself node) done (next ∷ []));
    }
